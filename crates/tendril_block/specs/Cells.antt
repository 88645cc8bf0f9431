-- The array of an `InlineBytes` after its first bytes were overwritten.
use Rattle.std.specs.Prelude.{ℕ, List, length}
use Rattle.std.specs.List.{refill}
use Rattle.tendril_block.specs.declared.inline_bytes.Cells.{Cells}

-- the array with its first bytes overwritten by w
abbrev pub with_front : Cells → List ℕ → Cells
with_front c w = record { bytes = refill (length c.bytes) c.bytes w }
