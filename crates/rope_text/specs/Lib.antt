-- The definitions that contracts on ropes cite.
pub mod Fronts
pub mod Growth
pub mod Parts
pub mod Ropes
pub mod Sink
pub mod Splits
