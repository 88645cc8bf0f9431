use Rattle.std.proofs.Common.{sym, subst}
use Rattle.std.specs.Prelude.{All}
use Rattle.rope_text.proofs.Whole.{joined_pieces}
use Rattle.rope_text.specs.Ropes.{RopeText, IsPiece}
use Rattle.rope_text.proofs.rope.Rope.pieces.Goals as goal

pub returns-clause-bytes : goal.returns-clause-bytes
returns-clause-bytes g c = sym (joined_pieces c.self.inside.pieces.items c.args.self.now c.self.view_is)

pub returns-clause-each : goal.returns-clause-each
returns-clause-each g c = subst (λ (r : RopeText). All IsPiece r.pieces) c.self.view_is c.self.invariant.each
