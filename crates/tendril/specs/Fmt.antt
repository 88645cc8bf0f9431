-- Definitions about formats: lists of bytes and their prefixes, characters, 16-bit units and WTF-8; and the lemmas that
-- the proofs of a format of your own need.
pub use Rattle.tendril_fmt.specs.Bytes
pub use Rattle.tendril_fmt.specs.Chars
pub use Rattle.tendril_fmt.specs.Classify
pub use Rattle.tendril_fmt.specs.CodePoints
pub use Rattle.tendril_fmt.specs.Joins
pub use Rattle.tendril_fmt.specs.Laws
pub use Rattle.tendril_fmt.specs.Local
pub use Rattle.tendril_fmt.specs.Parts
pub use Rattle.tendril_fmt.specs.Proved
pub use Rattle.tendril_fmt.specs.Units
pub use Rattle.tendril_fmt.specs.Wtf8
