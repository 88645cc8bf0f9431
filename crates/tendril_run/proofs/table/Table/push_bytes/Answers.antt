use Rattle.std.proofs.Common.{ap, refl, rules}
use Rattle.std.proofs.lemmas.Result.{err_from_is_err_and}
use Rattle.tendril_run.proofs.OneChanged.{one_changed, kept_cells, table_done, table_refused}
use Rattle.tendril_run.specs.Cells.{cell_of}
use Rattle.tendril_run.specs.OneCell.{push_rule}
use Rattle.tendril_run.proofs.table.Table.push_bytes.Goals as goal

pub returns-in_err-push_bytes-clause-outcome : goal.returns-in_err-push_bytes-clause-outcome
returns-in_err-push_bytes-clause-outcome g c class =
    let y = c.args.bytes.now in
    let one = one_changed cell_of c.self.inside.slots.items c.args.self.now.cells c.args.slot c.index_mut.result.now
    c.push_bytes.new.self (ap (λ t. t.cells) c.self.view_is) (search rules) c.index_mut.ensures.value in
    let p = err_from_is_err_and c.from_residual.result c.from_residual.ensures.1 in
    rw (p.1, p.2) (table_refused (push_rule y) c.args.self.now.cells c.args.slot (cell_of c.index_mut.result.now)
    (cell_of c.push_bytes.new.self) _ _ one c.in_err-push_bytes.ensures.pushed)

pub returns-clause-outcome : goal.returns-clause-outcome
returns-clause-outcome g c class =
    let y = c.args.bytes.now in
    let one = one_changed cell_of c.self.inside.slots.items c.args.self.now.cells c.args.slot c.index_mut.result.now
    c.push_bytes.new.self (ap (λ t. t.cells) c.self.view_is) (search rules) c.index_mut.ensures.value in
    let h = table_done (push_rule y) c.args.self.now.cells c.args.slot (cell_of c.index_mut.result.now)
    (cell_of c.push_bytes.new.self) _ one c.in_ok-push_bytes.ensures.pushed in (h.0, (refl, h.1))

pub invariant_of-self : goal.invariant_of-self
invariant_of-self g c = kept_cells cell_of c.self.inside.slots.items c.args.slot c.index_mut.result.now
    c.push_bytes.new.self (search rules) c.index_mut.ensures.value c.self.invariant c.push_bytes.ensures.kept

pub invariant_of-self-2 : goal.invariant_of-self-2
invariant_of-self-2 g c = kept_cells cell_of c.self.inside.slots.items c.args.slot c.index_mut.result.now
    c.push_bytes.new.self (search rules) c.index_mut.ensures.value c.self.invariant c.push_bytes.ensures.kept
