use Rattle.memchr.specs.Find.{Nowhere, Passes}
use Rattle.tendril_fmt.specs.Sets.{has_byte}
use Rattle.tendril_fmt.proofs.cuts.byte_set.find_in_table.Given as goal

abbrev pub invariant-loop-at : goal.invariant-loop-at
invariant-loop-at l = Nowhere (Passes (has_byte l.members) l.bytes) 0 l.at
