use Rattle.tendril_run.proofs.OneChanged.{added_cells}
use Rattle.tendril_run.specs.Cells.{cell_of}
use Rattle.tendril_run.proofs.table.Table.push.Goals as goal

pub invariant_of-self : goal.invariant_of-self
invariant_of-self g c = added_cells cell_of _ c.self.inside.slots.items c.push.new.self.items c.args.slot
    c.push.ensures.items c.self.invariant c.read.ensures
