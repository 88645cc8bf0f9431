-- Lemmas that a caller's proofs cite: about prefixes and characters of a format, sets of bytes, lines and splits,
-- 16-bit units, what is sent to a sink, a sink after a decoder, and reading.
pub use Rattle.tendril_fmt.proofs.Parts
pub use Rattle.tendril_fmt.proofs.Splits
pub use Rattle.tendril_fmt.proofs.SetBytes
pub use Rattle.tendril_fmt.proofs.TextSplits
pub use Rattle.tendril_fmt.proofs.UnitCounts
pub use Rattle.tendril_fmt.proofs.UnitSplits
pub use Rattle.tendril_fmt.proofs.Wtf8Joins
pub use Rattle.tendril_lossy.proofs.Told
pub use Rattle.tendril_lossy.specs.Laws
pub use Rattle.tendril_stream.proofs.Fed
pub use Rattle.tendril_stream.proofs.Handed
pub use Rattle.tendril_stream.proofs.Halted
pub use Rattle.tendril_stream.proofs.Refused
pub use Rattle.tendril_stream.proofs.Stands
