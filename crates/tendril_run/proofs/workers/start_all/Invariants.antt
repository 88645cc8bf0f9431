use Rattle.std.proofs.Common.{◌≡◌, ◌+◌, ◌≤◌, vec_len, vec_capacity, IfSome}
use Rattle.std.specs.Vec.Iter.{into_iter_items, into_iter_len}
use Rattle.tendril_run.proofs.Pairs.{Completes}
use Rattle.tendril_run.proofs.workers.start_all.Given as goal

abbrev pub invariant-loop-job : goal.invariant-loop-job
invariant-loop-job g l = record {
  each : Completes (λ j w. IfSome w (λ h. h.promise.0.value ≡ j)) l.fn.jobs.items l.workers.items
      (into_iter_items l.job-iterator);
  room : vec_len l.workers + into_iter_len l.job-iterator ≤ vec_capacity l.workers;
  len : vec_len l.workers + into_iter_len l.job-iterator ≡ vec_len l.fn.workers + vec_len l.fn.jobs;
}
