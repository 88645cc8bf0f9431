mod DecoderReads
pub mod DecodingEnds
mod JoiningSinks
mod WrittenTexts
