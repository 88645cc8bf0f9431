use Rattle.std.proofs.Common.{length, ap, ◌∙◌, arith}
use Rattle.std.proofs.lemmas.List.{get_or_read}
use Rattle.rope_text.specs.Ropes.{RopeText, piece_at}
use Rattle.tendril_text.specs.TextLists.{no_text}
use Rattle.rope_text.proofs.rope.Rope.piece.Goals as goal

pub returns : goal.returns
returns g c =
    let xs = c.self.inside.pieces.items in
    let size = ap (λ (r : RopeText). length r.pieces) c.self.view_is in
    get_or_read xs c.args.index c.index.result.now (omega arith) c.index.ensures no_text
    ∙ ap (λ (r : RopeText). piece_at r.pieces c.args.index) c.self.view_is
