use Rattle.rope_text.proofs.Fronts.{AreDropped}
use Rattle.rope_text.proofs.rope.Rope.drop_ascii.Given as goal

abbrev pub invariant-loop : goal.invariant-loop
invariant-loop g l = AreDropped l.initial.self.bytes l.initial.self.pieces l.counter l.self
