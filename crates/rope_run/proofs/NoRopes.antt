use Rattle.std.proofs.Common.{◌≡◌, [], ap₂}
use Rattle.rope_run.specs.RopeCells.{Cells, no_cells}

-- a table without slots and ropes
pub none_of_both : (cells : Cells) → cells.slots ≡ [] → cells.ropes ≡ [] → cells ≡ no_cells
none_of_both cells s r = ap₂ (λ slots ropes. record { slots = slots; ropes = ropes }) s r
