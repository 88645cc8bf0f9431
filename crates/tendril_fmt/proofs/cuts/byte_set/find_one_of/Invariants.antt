use Rattle.memchr.specs.Find.{Nowhere, Passes}
use Rattle.tendril_fmt.specs.Sets.{is_byte4}
use Rattle.tendril_fmt.proofs.cuts.byte_set.find_one_of.Given as goal

abbrev pub invariant-loop-at : goal.invariant-loop-at
invariant-loop-at l = Nowhere (Passes (is_byte4 l.a l.b l.c l.d) l.bytes) 0 l.at
