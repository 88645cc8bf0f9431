use Rattle.std.proofs.Common.{ap, subst, set, sym, ◌<◌}
use Rattle.std.proofs.lemmas.List.{length-set}
use Rattle.tendril_run.proofs.Joined.{joined_apart}
use Rattle.tendril_run.proofs.OneChanged.{cell_within, set_cells, within_items}
use Rattle.tendril_run.specs.Cells.{cell_of, IsCell}
use Rattle.tendril_run.specs.OneCell.{join_rule}
use Rattle.tendril_run.specs.Rules.{Changes}
use Rattle.tendril_run.proofs.table.Table.join_other.Goals as goal

pub returns-clause-joined : goal.returns-clause-joined
returns-clause-joined g c =
    joined_apart cell_of c.self.inside.slots.items c.args.self.now.cells c.args.to c.args.from c.index_mut.result.now
    c.index.result.now c.replace-text.new.dest c.join-joined.new.self c.join-joined.result
    (ap (λ t. t.cells) c.self.view_is) c.requires.to c.requires.from c.requires.other c.index_mut.ensures.value
    c.index.ensures
    (subst (λ s. Changes (join_rule c.args.to c.args.from (cell_of c.index.result.now))
    (cell_of s) c.join-joined.result (cell_of c.join-joined.new.self)) c.replace-text.ensures.value
    (c.join-joined.ensures.joined c.args.to c.args.from))

pub invariant_of-self : goal.invariant_of-self
invariant_of-self g c =
    let items = c.self.inside.slots.items in
    let meanwhile = c.replace-text.new.dest in
    let is = ap (λ t. t.cells) c.self.view_is in
    let mid = set_cells cell_of items c.args.to meanwhile c.self.invariant (rw c.replace-text.ensures.after tt) in
    let here = cell_within cell_of items c.args.to c.index_mut.result.now
    (within_items cell_of items c.args.self.now.cells c.args.to is c.requires.to) c.index_mut.ensures.value
    c.self.invariant in
    let within = subst (λ n. c.args.from < n) (sym (length-set items c.args.to meanwhile))
    (within_items cell_of items c.args.self.now.cells c.args.from is c.requires.from) in
    let there = cell_within cell_of (set items c.args.to meanwhile) c.args.from c.index.result.now within
    c.index.ensures mid in
    set_cells cell_of (set items c.args.to meanwhile) c.args.to c.join-joined.new.self mid
    (c.join-joined.ensures.kept (subst (λ s. IsCell (cell_of s)) (sym c.replace-text.ensures.value) here) there)
