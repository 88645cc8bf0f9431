-- The definitions that the program's contracts cite.
pub mod Follows
pub mod Spelled
