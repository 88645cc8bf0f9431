-- The definitions that the program's contracts cite.
pub mod Ends
pub mod Follows
pub mod Spelled
