-- The definitions that the contracts of decoding an input to an output cite.
pub mod Transcodings
