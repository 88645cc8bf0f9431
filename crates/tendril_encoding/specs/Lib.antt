-- The definitions that contracts on decoding in any encoding cite.
pub mod Marks
pub mod Sends
pub mod Known
pub mod First
pub mod States
pub mod Starts
pub mod StateLaws
pub mod Choices
pub mod Laws
pub mod HasMarks
pub mod Outgrown
pub mod Wholes
pub mod Stopping
pub mod Outputs
