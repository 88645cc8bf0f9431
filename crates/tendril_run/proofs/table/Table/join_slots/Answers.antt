use Rattle.std.proofs.Common.{ap, sym}
use Rattle.tendril_run.proofs.OneChanged.{one_changed, kept_cells, table_changed, within_items}
use Rattle.tendril_run.specs.Cells.{cell_of}
use Rattle.tendril_run.specs.OneCell.{join_rule}
use Rattle.tendril_run.proofs.table.Table.join_slots.Goals as goal

pub returns-then-to-from-clause-joined : goal.returns-then-to-from-clause-joined
returns-then-to-from-clause-joined g c =
    let to = c.args.to in
    let one = one_changed cell_of c.self.inside.slots.items c.args.self.now.cells to c.index_mut.result.now
    c.join_self.new.self (ap (λ t. t.cells) c.self.view_is)
    (within_items cell_of c.self.inside.slots.items c.args.self.now.cells to (ap (λ t. t.cells) c.self.view_is)
    c.requires.to) c.index_mut.ensures.value in
    rw (sym c.if-to-from.true)
    (table_changed (λ cell. join_rule to to cell cell) c.args.self.now.cells to (cell_of c.index_mut.result.now)
    (cell_of c.join_self.new.self) _ c.join_self.result one (c.join_self.ensures.joined to))

pub invariant_of-self : goal.invariant_of-self
invariant_of-self g c = kept_cells cell_of c.self.inside.slots.items c.args.to c.index_mut.result.now
    c.join_self.new.self (within_items cell_of c.self.inside.slots.items c.args.self.now.cells c.args.to
    (ap (λ t. t.cells) c.self.view_is) c.requires.to) c.index_mut.ensures.value c.self.invariant
    c.join_self.ensures.kept
