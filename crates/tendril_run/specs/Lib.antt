-- The definitions that contracts on tables cite.
pub mod Cells
pub mod Rules
pub mod Edits
pub mod Characters
pub mod Comparisons
pub mod OneCell
pub mod Steps
pub mod Chains
pub mod Jobs
pub mod TableAnswers
pub mod WhiteSpace
