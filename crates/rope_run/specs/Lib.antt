-- The definitions that contracts on tables of ropes, on their commands and on their lines cite.
pub mod RopeLines
pub mod RopePrinted
pub mod RopeCells
pub mod RopeOf
pub mod RopeRules
pub mod RopeRows
pub mod RopeSteps
