pub mod AsciiBlocks
pub mod AsciiParts
pub mod CharIndices
pub mod Characters
pub mod CodePointCuts
pub mod Decodings
pub mod FourBytes
pub mod Fronts
pub mod Lanes
pub mod LocalTests
pub mod Parts
pub mod Pieces
pub mod Rests
pub mod Runs
pub mod Seams
pub mod Sequences
pub mod SetBytes
pub mod Splits
pub mod TextSplits
pub mod Unique
pub mod UnitCounts
pub mod UnitSplits
pub mod Words
pub mod Written
pub mod Wtf8Joins
mod Searches
mod SetLanes
mod Trims
mod UnitBlocks
mod UnitFronts
mod UnitLanes
mod UnitPlaces
mod UnitWalks
mod Pairs
