-- The definitions that contracts on streams cite.
pub mod Sinks
pub mod SentBytes
pub mod Events
pub mod Decodings
pub mod Utf8Laws
pub mod Decoders
pub mod Compositions
pub mod Reads
pub mod Readings
pub mod Stored
pub mod Lines
pub mod LineStarts
