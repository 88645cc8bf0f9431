-- The definitions that contracts on lossy decoding cite.
pub mod Lossy
pub mod AfterText
pub mod Laws
pub mod Completions
