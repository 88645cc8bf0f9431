use Rattle.std.proofs.Common.{ℕ, ◌+◌, ◌<◌, ◌≤◌, slice_index}
use Rattle.tendril_fmt.specs.CodePoints.{IsContinuation}
use Rattle.tendril_fmt.proofs.futf.start_before.Given as goal

abbrev pub invariant-loop-back : goal.invariant-loop-back
invariant-loop-back l = (k : ℕ) → l.idx < k + l.back → k ≤ l.idx → IsContinuation (slice_index l.buf k)
