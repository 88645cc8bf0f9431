use Rattle.std.proofs.Common.{subst, sym}
use Rattle.tendril_run.specs.Steps.{CommandOutcome}
use Rattle.tendril_run.proofs.table.Table.step.Goals as goal

pub returns-in-Ok-clause-step : goal.returns-in-Ok-clause-step
returns-in-Ok-clause-step g c =
    subst (λ answer. CommandOutcome (g.C.Classifier.class c.args.classifier.now) c.args.self.now.cells
    c.args.command.now answer c.carry_out.new.self.cells)
    (sym c.in-Ok.ensures.plain) c.in-Ok.ensures.outcome
