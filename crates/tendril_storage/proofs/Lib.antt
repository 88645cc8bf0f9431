mod Overs
pub mod Partings
pub mod Views
