pub mod Fronts
pub mod Halted
pub mod Joins
pub mod Whole
