use Rattle.std.proofs.Common.{◌≡◌, ◌++◌, length, flat_map}
use Rattle.tendril_bench.proofs.parts.parts.Given as goal

abbrev pub invariant-parts : goal.invariant-parts
invariant-parts l = flat_map (λ part. part.bytes) l.parts.items ++ l.text.bytes ≡ l.fn.text.bytes

abbrev pub decreases-parts : goal.decreases-parts
decreases-parts l = length l.text.bytes
