use Rattle.std.proofs.Common.{ap, rules, sym, ◌∙◌}
use Rattle.std.proofs.lemmas.Result.{err_from_is_err_and}
use Rattle.tendril_run.proofs.OneChanged.{one_changed, kept_cells, table_done, table_refused}
use Rattle.tendril_run.specs.Cells.{cell_of}
use Rattle.tendril_run.specs.OneCell.{char_of, pop_char_rule}
use Rattle.tendril_lines.specs.declared.command.Reply.TheVariants.{Char}
use Rattle.tendril_run.proofs.table.Table.pop_char.Goals as goal

pub returns-in_err-pop_char-clause-outcome : goal.returns-in_err-pop_char-clause-outcome
returns-in_err-pop_char-clause-outcome g c class =
    let one = one_changed cell_of c.self.inside.slots.items c.args.self.now.cells c.args.slot c.index_mut.result.now
    c.pop_char.new.self (ap (λ t. t.cells) c.self.view_is) (search rules) c.index_mut.ensures.value in
    let p = err_from_is_err_and c.from_residual.result c.from_residual.ensures.1 in
    rw (p.1, p.2) (table_refused pop_char_rule c.args.self.now.cells c.args.slot (cell_of c.index_mut.result.now)
    (cell_of c.pop_char.new.self) _ _ one c.in_err-pop_char.ensures.popped)

pub returns-clause-outcome : goal.returns-clause-outcome
returns-clause-outcome g c class =
    let one = one_changed cell_of c.self.inside.slots.items c.args.self.now.cells c.args.slot c.index_mut.result.now
    c.pop_char.new.self (ap (λ t. t.cells) c.self.view_is) (search rules) c.index_mut.ensures.value in
    let popped = c.in_ok-pop_char.ensures.popped in
    let h = table_done pop_char_rule c.args.self.now.cells c.args.slot (cell_of c.index_mut.result.now)
    (cell_of c.pop_char.new.self) _ one (popped.0, popped.1.1) in
    (h.0, (ap Char (popped.1.0 ∙ ap char_of (sym one.here)), h.1))

pub invariant_of-self : goal.invariant_of-self
invariant_of-self g c = kept_cells cell_of c.self.inside.slots.items c.args.slot c.index_mut.result.now
    c.pop_char.new.self (search rules) c.index_mut.ensures.value c.self.invariant c.pop_char.ensures.kept

pub invariant_of-self-2 : goal.invariant_of-self-2
invariant_of-self-2 g c = kept_cells cell_of c.self.inside.slots.items c.args.slot c.index_mut.result.now
    c.pop_char.new.self (search rules) c.index_mut.ensures.value c.self.invariant c.pop_char.ensures.kept
