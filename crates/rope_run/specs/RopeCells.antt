-- Tables of texts and ropes: two lists of cells. A rope's cell is a text in UTF-8, or `gone` after a drop.
use Rattle.std.specs.Prelude.{ℕ, ◌≤◌, List, [], length, get_or, IsUtf8}
use Rattle.rope_text.specs.declared.rope.TheConstants.{MAX_TOTAL}
use Rattle.tendril_run.specs.Cells.{Cell}

-- a rope's cell: a text in UTF-8, or `gone`
pub data RopeCell : Type 0 where
  gone : RopeCell
  rope : List ℕ → RopeCell

-- a valid cell of a rope: `gone`, or a text that is UTF-8 and not too long
abbrev pub IsRopeCell : RopeCell → Type 0
IsRopeCell gone = Unit {0}
IsRopeCell (rope b) = IsUtf8 b × (length b ≤ MAX_TOTAL)

-- the cells of a table: those of its slots, and those of its ropes
pub record Cells : Type 0 where
  pub slots : List Cell
  pub ropes : List RopeCell

-- a table without slots and ropes
abbrev pub no_cells : Cells
no_cells = record { slots = []; ropes = [] }

-- a table: its cells, and its spare capacity for slots and for ropes
pub record RopeBoard : Type 0 where
  pub cells : Cells
  pub slot_room : ℕ
  pub rope_room : ℕ

-- the cell of a rope's number, `gone` past the end
abbrev pub rope_at : List RopeCell → ℕ → RopeCell
rope_at ropes number = get_or ropes number gone
