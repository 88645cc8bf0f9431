use Rattle.std.proofs.Common.{arith}
use Rattle.std.proofs.lemmas.List.{nil_from_length}
use Rattle.tendril_run.proofs.Pairs.{completed}
use Rattle.tendril_run.proofs.workers.join_all.Goals as goal

pub returns : goal.returns
returns g c =
    let rest = c.loop-worker.worker-iterator.rest in
    completed _ _ _ _ c.loop-worker.invariant.each
    (nil_from_length rest.items (omega (arith, rest.ok.0, c.in-None.ensures.steps.0)))
