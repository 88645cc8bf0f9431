-- The definitions that contracts on encodings cite.
pub mod Machines
pub mod Steps
pub mod Characters
pub mod TwoBytes
pub mod EucKr
pub mod Big5
pub mod ShiftJis
pub mod EucJp
pub mod Single
pub mod Replacement
pub mod Utf16
pub mod Utf16Blocks
pub mod Packed
pub mod Gb18030
pub mod Iso2022Jp
pub mod Any
