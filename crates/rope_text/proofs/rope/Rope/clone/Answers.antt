use Rattle.std.proofs.Common.{length, ap, subst, arith}
use Rattle.std.specs.Prelude.{All}
use Rattle.rope_text.proofs.Whole.{joined_pieces, sub_rope_whole}
use Rattle.rope_text.specs.Ropes.{RopeText, IsPiece}
use Rattle.rope_text.proofs.rope.Rope.clone.Goals as goal

pub returns : goal.returns
returns g c =
    let count = c.self.invariant.counts in
    let size = ap (λ (r : RopeText). length r.bytes) c.self.view_is in
    sub_rope_whole c.args.self.now c.self.inside.total c.sub_rope.result (omega arith)
    (subst (λ (r : RopeText). All IsPiece r.pieces) c.self.view_is c.self.invariant.each)
    (joined_pieces c.self.inside.pieces.items c.args.self.now c.self.view_is) c.sub_rope.ensures
