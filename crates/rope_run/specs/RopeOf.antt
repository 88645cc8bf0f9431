-- The cell of a rope.
use Rattle.std.specs.Prelude.{Option, None, Some}
use Rattle.rope_text.specs.Ropes.{RopeText}
use Rattle.rope_run.specs.RopeCells.{RopeCell, gone, rope}

-- the cell of a rope: its bytes, or `gone` if it was dropped
abbrev pub rope_cell_of : Option RopeText → RopeCell
rope_cell_of None = gone
rope_cell_of (Some r) = rope r.bytes
