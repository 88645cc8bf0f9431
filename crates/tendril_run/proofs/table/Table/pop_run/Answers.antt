use Rattle.std.proofs.Common.{ap, rules}
use Rattle.std.proofs.lemmas.Result.{err_from_is_err_and}
use Rattle.tendril_run.proofs.OneChanged.{one_changed, kept_cells}
use Rattle.tendril_run.proofs.TakenRuns.{none_taken, run_taken, run_refused}
use Rattle.tendril_run.specs.Cells.{cell_of}
use Rattle.tendril_run.proofs.table.Table.pop_run.Goals as goal

pub returns-in-None-clause-outcome : goal.returns-in-None-clause-outcome
returns-in-None-clause-outcome g c =
    let one = one_changed cell_of c.self.inside.slots.items c.args.self.now.cells c.args.slot c.index_mut.result.now
    c.pop_run.new.self (ap (λ t. t.cells) c.self.view_is) (search rules) c.index_mut.ensures.value in
    let popped = c.in_ok-pop_run.ensures.popped in
    none_taken (g.C.Classifier.class c.args.classifier.now) c.args.self.now.cells c.args.slot
    (cell_of c.index_mut.result.now) (cell_of c.pop_run.new.self) _ one popped.0 (rw c.in-None.is at popped.1)

pub returns-in-Some-clause-outcome : goal.returns-in-Some-clause-outcome
returns-in-Some-clause-outcome g c =
    let one = one_changed cell_of c.self.inside.slots.items c.args.self.now.cells c.args.slot c.index_mut.result.now
    c.pop_run.new.self (ap (λ t. t.cells) c.self.view_is) (search rules) c.index_mut.ensures.value in
    let popped = c.in_ok-pop_run.ensures.popped in
    run_taken (g.C.Classifier.class c.args.classifier.now) c.args.self.now.cells c.args.slot
    (cell_of c.index_mut.result.now) (cell_of c.pop_run.new.self) _ one c.in-Some.class c.add.result
    (cell_of c.in-Some.run') c.add.new.self.cells
    popped.0 (rw c.in-Some.is at popped.1) c.add.ensures.number c.add.ensures.cells

pub returns-in_err-pop_run-clause-outcome : goal.returns-in_err-pop_run-clause-outcome
returns-in_err-pop_run-clause-outcome g c =
    let one = one_changed cell_of c.self.inside.slots.items c.args.self.now.cells c.args.slot c.index_mut.result.now
    c.pop_run.new.self (ap (λ t. t.cells) c.self.view_is) (search rules) c.index_mut.ensures.value in
    let popped = c.in_err-pop_run.ensures.popped in
    let p = err_from_is_err_and c.from_residual.result c.from_residual.ensures.1 in
    rw (p.1, p.2) (run_refused (g.C.Classifier.class c.args.classifier.now) c.args.self.now.cells c.args.slot
    (cell_of c.index_mut.result.now) (cell_of c.pop_run.new.self) _ one _ popped.0 popped.1)

pub invariant_of-self : goal.invariant_of-self
invariant_of-self g c = kept_cells cell_of c.self.inside.slots.items c.args.slot c.index_mut.result.now
    c.pop_run.new.self (search rules) c.index_mut.ensures.value c.self.invariant c.pop_run.ensures.kept

pub invariant_of-self-in-None : goal.invariant_of-self-in-None
invariant_of-self-in-None g c = kept_cells cell_of c.self.inside.slots.items c.args.slot c.index_mut.result.now
    c.pop_run.new.self (search rules) c.index_mut.ensures.value c.self.invariant c.pop_run.ensures.kept

pub invariant_of-self-in-Some : goal.invariant_of-self-in-Some
invariant_of-self-in-Some g c = kept_cells cell_of c.self.inside.slots.items c.args.slot c.index_mut.result.now
    c.pop_run.new.self (search rules) c.index_mut.ensures.value c.self.invariant c.pop_run.ensures.kept
