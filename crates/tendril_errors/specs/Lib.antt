-- The definitions that contracts on errors and outcomes cite.
pub mod Errors
pub mod Outcomes
pub mod Refusals
