use Rattle.std.proofs.Common.{Some, subst, sym}
use Rattle.std.specs.Prelude.{All, map}
use Rattle.rope_run.proofs.RopeChanged.{added_ropes}
use Rattle.rope_run.specs.RopeCells.{IsRopeCell}
use Rattle.rope_run.specs.RopeOf.{rope_cell_of}
use Rattle.rope_run.proofs.table.RopeTable.add.Goals as goal

pub invariant_of-self : goal.invariant_of-self
invariant_of-self g c = subst (λ items. All IsRopeCell (map rope_cell_of items)) (sym c.push_reserved.ensures.items)
    (added_ropes c.self.inside.ropes.items (Some c.args.rope) c.self.invariant c.read.ensures)
