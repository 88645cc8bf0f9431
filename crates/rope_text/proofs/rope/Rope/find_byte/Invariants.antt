use Rattle.memchr.specs.Find.{is_byte}
use Rattle.rope_text.proofs.Found.{NoneIn}
use Rattle.rope_text.proofs.rope.Rope.find_byte.Given as goal

abbrev pub invariant-loop-index : goal.invariant-loop-index
invariant-loop-index g l = NoneIn (is_byte l.byte) l.self.pieces l.index
