use Rattle.rope_run.proofs.GivenRopes.{whole_given}
use Rattle.rope_run.proofs.table.RopeTable.whole.Goals as goal

pub returns-in-Some : goal.returns-in-Some
returns-in-Some g c = rw c.in-Some.ensures (whole_given c.in-Some.rope.now c.to_tendril.result c.to_tendril.ensures)
