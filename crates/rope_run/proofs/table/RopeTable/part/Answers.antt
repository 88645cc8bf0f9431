use Rattle.rope_run.proofs.GivenRopes.{part_given}
use Rattle.rope_run.proofs.table.RopeTable.part.Goals as goal

pub returns-in-Some : goal.returns-in-Some
returns-in-Some g c = rw c.in-Some.ensures
    (part_given c.in-Some.rope.now c.args.offset c.args.count c.sub_rope.result c.sub_rope.ensures)
