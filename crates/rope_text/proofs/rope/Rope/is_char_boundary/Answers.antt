use Rattle.std.proofs.Common.{sym, subst}
use Rattle.std.specs.Prelude.{IsUtf8}
use Rattle.std.specs.Str.{IsCharBoundary}
use Rattle.std.proofs.lemmas.Str.{IsUtf8-take, IsCharBoundary-from_take}
use Rattle.rope_text.proofs.Joined.{pieces_valid}
use Rattle.rope_text.specs.Ropes.{RopeText}
use Rattle.rope_text.proofs.rope.Rope.is_char_boundary.Goals as goal

pub returns-then-at-self-clause-valid : goal.returns-then-at-self-clause-valid
returns-then-at-self-clause-valid g c = subst (λ (r : RopeText). IsUtf8 r.bytes) c.self.view_is
    (pieces_valid c.self.inside.pieces.items c.self.invariant.each)

pub returns-clause-cut : goal.returns-clause-cut
returns-clause-cut g c =
    let b = c.args.self.now.bytes in
    let at = c.args.at in
    let valid = subst (λ (r : RopeText). IsUtf8 r.bytes) c.self.view_is
    (pieces_valid c.self.inside.pieces.items c.self.invariant.each) in
    let place = c.place_of_cut-whole.ensures.place in (
      λ t.
          let cut = subst (λ n. IsCharBoundary b n) place (c.is_cut.ensures.0 t) in
          (cut.0, IsUtf8-take b at valid cut),
      λ there. c.is_cut.ensures.1 (subst (λ n. IsCharBoundary b n) (sym place)
          (IsCharBoundary-from_take b at valid there.0 there.1)),
    )

pub returns-clause-valid : goal.returns-clause-valid
returns-clause-valid g c = subst (λ (r : RopeText). IsUtf8 r.bytes) c.self.view_is
    (pieces_valid c.self.inside.pieces.items c.self.invariant.each)
