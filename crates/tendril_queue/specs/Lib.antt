-- The definitions that contracts on queues of texts cite.
pub mod Queues
pub mod Eating
pub mod Lines
