-- The definitions that contracts on running a script cite.
pub mod Commands
pub mod Endings
pub mod HeldBack
pub mod Sessions
pub mod Words
pub mod Writing
