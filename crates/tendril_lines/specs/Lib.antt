-- The definitions that contracts on lines cite.
pub mod Names
pub mod Lines
pub mod Printed
pub mod Shapes
pub mod Words
