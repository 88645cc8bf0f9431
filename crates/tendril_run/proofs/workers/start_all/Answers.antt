use Rattle.std.proofs.Common.{arith}
use Rattle.std.proofs.lemmas.List.{nil_from_length}
use Rattle.tendril_run.proofs.Pairs.{completed}
use Rattle.tendril_run.proofs.workers.start_all.Goals as goal

pub returns-clause-each : goal.returns-clause-each
returns-clause-each g c =
    let rest = c.loop-job.job-iterator.rest in
    completed _ _ _ _ c.loop-job.invariant.each
    (nil_from_length rest.items (omega (arith, rest.ok.0, c.in-None.ensures.steps.0)))
