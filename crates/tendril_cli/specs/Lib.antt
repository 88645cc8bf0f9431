-- The definitions that the program's contracts cite.
pub mod Decodings
pub mod Endings
pub mod Sessions
pub mod Words
