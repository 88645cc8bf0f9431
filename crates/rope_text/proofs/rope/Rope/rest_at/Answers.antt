use Rattle.std.proofs.Common.{◌≡◌, ap, ◌∙◌, subst, get_or}
use Rattle.std.proofs.lemmas.List.{get_or_read}
use Rattle.rope_text.proofs.Located.{rest_stands}
use Rattle.rope_text.proofs.Whole.{joined_pieces}
use Rattle.rope_text.specs.Ropes.{RopeText, piece_at}
use Rattle.tendril_text.specs.TextLists.{no_text}
use Rattle.tendril_text.specs.Texts.{Text}
use Rattle.rope_text.proofs.rope.Rope.rest_at.Goals as goal

pub returns-clause-within : goal.returns-clause-within
returns-clause-within g c =
    let rope = c.args.self.now in
    let xs = rope.pieces in
    let found = c.locate-index.ensures in
    let index = c.locate-index.result.0 in
    let within = c.locate-index.result.1 in
    let read = subst (λ (r : RopeText). c.index.result.now ≡ get_or r.pieces index c.index.result.now) c.self.view_is
    c.index.ensures in
    let is : c.as_byte_slice.result.now ≡ (piece_at xs index).bytes = c.as_byte_slice.ensures.value
    ∙ ap (λ (t : Text). t.bytes) (get_or_read xs index c.index.result.now found.piece read no_text) in
    let stands = rest_stands xs index within c.args.at c.as_byte_slice.result.now is found.piece found.within
    found.place in
    rw (joined_pieces c.self.inside.pieces.items rope c.self.view_is) stands.within

pub returns-clause-bytes : goal.returns-clause-bytes
returns-clause-bytes g c =
    let rope = c.args.self.now in
    let xs = rope.pieces in
    let found = c.locate-index.ensures in
    let index = c.locate-index.result.0 in
    let within = c.locate-index.result.1 in
    let read = subst (λ (r : RopeText). c.index.result.now ≡ get_or r.pieces index c.index.result.now) c.self.view_is
    c.index.ensures in
    let is : c.as_byte_slice.result.now ≡ (piece_at xs index).bytes = c.as_byte_slice.ensures.value
    ∙ ap (λ (t : Text). t.bytes) (get_or_read xs index c.index.result.now found.piece read no_text) in
    let stands = rest_stands xs index within c.args.at c.as_byte_slice.result.now is found.piece found.within
    found.place in
    rw (joined_pieces c.self.inside.pieces.items rope c.self.view_is) stands.bytes
