-- Definitions for the contracts of stored bytes.
pub mod Detached
pub mod Texts
pub mod Partings
pub mod Storages
pub mod Edits
