use Rattle.std.proofs.Common.{◌-◌, ◌≤◌, length}
use Rattle.memchr.specs.Find.{Nowhere, Passes}
use Rattle.tendril_fmt.specs.Sets.{is_byte4}
use Rattle.tendril_fmt.proofs.cuts.byte_set.skip_others.Given as goal

abbrev pub invariant-sixteens : goal.invariant-sixteens
invariant-sixteens l = (l.at ≤ length l.bytes) × Nowhere (Passes (is_byte4 l.a l.b l.c l.d) l.bytes) 0 l.at

abbrev pub decreases-sixteens : goal.decreases-sixteens
decreases-sixteens l = length l.bytes - l.at
