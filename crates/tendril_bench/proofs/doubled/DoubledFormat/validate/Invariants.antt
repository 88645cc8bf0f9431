use Rattle.std.proofs.Common.{◌↔◌, length}
use Rattle.tendril_bench.specs.Doubled.{IsDoubled}
use Rattle.tendril_bench.proofs.doubled.DoubledFormat.validate.Given as goal

abbrev pub invariant-loop-rest : goal.invariant-loop-rest
invariant-loop-rest l = IsDoubled l.bytes ↔ IsDoubled l.rest

abbrev pub decreases-loop-rest : goal.decreases-loop-rest
decreases-loop-rest l = length l.rest
