use Rattle.rope_text.proofs.Found.{NoneIn}
use Rattle.tendril_fmt.specs.Sets.{has_byte}
use Rattle.rope_text.proofs.rope.Rope.find_any.Given as goal

abbrev pub invariant-loop-index : goal.invariant-loop-index
invariant-loop-index g l = NoneIn (has_byte l.set) l.self.pieces l.index
