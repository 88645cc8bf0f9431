use Rattle.std.proofs.Common.{◌≡◌, ◌+◌, ◌≤◌, vec_len, vec_capacity, MatchOption}
use Rattle.std.specs.Vec.Iter.{into_iter_items, into_iter_len}
use Rattle.tendril_run.proofs.Pairs.{Completes}
use Rattle.tendril_run.specs.Jobs.{JobEnds, IsBegun}
use Rattle.tendril_run.specs.declared.workers.Outcome.TheVariants.{NotStarted}
use Rattle.tendril_run.proofs.workers.join_all.Given as goal

abbrev pub invariant-loop-worker : goal.invariant-loop-worker
invariant-loop-worker g l = record {
  each : Completes (λ w o. MatchOption w (o ≡ NotStarted) (λ h. let job = h.promise.0.value in
      JobEnds (g.C.Classifier.class job.class) job.table.cells job.commands.items o × IsBegun o)) l.fn.workers.items
      l.outcomes.items (into_iter_items l.worker-iterator);
  room : vec_len l.outcomes + into_iter_len l.worker-iterator ≤ vec_capacity l.outcomes;
}
