use Rattle.std.proofs.Common.{ap, refl, rules}
use Rattle.std.proofs.lemmas.Result.{err_from_is_err_and}
use Rattle.tendril_run.proofs.OneChanged.{one_changed, kept_cells, table_done, table_refused}
use Rattle.tendril_run.specs.Cells.{cell_of}
use Rattle.tendril_run.specs.OneCell.{change_rule}
use Rattle.tendril_run.proofs.table.Table.change.Goals as goal

pub returns-in_err-change-clause-changed : goal.returns-in_err-change-clause-changed
returns-in_err-change-clause-changed g c =
    let one = one_changed cell_of c.self.inside.slots.items c.args.self.now.cells c.args.slot c.index_mut.result.now
    c.change.new.self (ap (λ t. t.cells) c.self.view_is) (search rules) c.index_mut.ensures.value in
    let p = err_from_is_err_and c.from_residual.result c.from_residual.ensures.1 in
    rw (p.1, p.2) (table_refused (change_rule c.args.change) c.args.self.now.cells c.args.slot
    (cell_of c.index_mut.result.now) (cell_of c.change.new.self) _ _ one c.in_err-change.ensures.changed)

pub returns-clause-changed : goal.returns-clause-changed
returns-clause-changed g c =
    let one = one_changed cell_of c.self.inside.slots.items c.args.self.now.cells c.args.slot c.index_mut.result.now
    c.change.new.self (ap (λ t. t.cells) c.self.view_is) (search rules) c.index_mut.ensures.value in
    let h = table_done (change_rule c.args.change) c.args.self.now.cells c.args.slot (cell_of c.index_mut.result.now)
    (cell_of c.change.new.self) _ one c.in_ok-change.ensures.changed in (h.0, (refl, h.1))

pub invariant_of-self : goal.invariant_of-self
invariant_of-self g c = kept_cells cell_of c.self.inside.slots.items c.args.slot c.index_mut.result.now
    c.change.new.self (search rules) c.index_mut.ensures.value c.self.invariant c.change.ensures.kept

pub invariant_of-self-2 : goal.invariant_of-self-2
invariant_of-self-2 g c = kept_cells cell_of c.self.inside.slots.items c.args.slot c.index_mut.result.now
    c.change.new.self (search rules) c.index_mut.ensures.value c.self.invariant c.change.ensures.kept
