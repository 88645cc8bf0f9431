-- The definitions that contracts cite.
pub mod Encodings
pub mod Table
pub mod Labels
pub mod Laws
