use Rattle.std.proofs.Common.{rules, ◌≡◌, ◌≤◌, length, true, false, refl, sym, ap, subst, arith, inl, inr}
use Rattle.std.specs.Prelude.{IsUtf8}
use Rattle.std.specs.Str.{IsCharBoundary}
use Rattle.std.proofs.lemmas.Str.{IsUtf8-take, IsCharBoundary-from_take}
use Rattle.rope_text.proofs.Joined.{pieces_valid}
use Rattle.rope_text.proofs.Shared.{not_false, not_true}
use Rattle.rope_text.proofs.Split.{splits_none, splits_off}
use Rattle.rope_text.specs.Ropes.{RopeText}
use Rattle.rope_text.proofs.rope.Rope.try_split_to.Goals as goal

pub returns-then-count-eq0 : goal.returns-then-count-eq0
returns-then-count-eq0 g c = splits_none c.args.count c.args.self.now c.new.result c.if-count-eq0.true
    c.new.ensures.bytes c.new.ensures.pieces

pub returns-then-not-is_cut : goal.returns-then-not-is_cut
returns-then-not-is_cut g c =
    let b = c.args.self.now.bytes in
    let count = c.self.invariant.counts in
    let size = ap (λ (r : RopeText). length r.bytes) c.self.view_is in
    let there : c.args.count ≤ length b = omega arith in
    let valid = subst (λ (r : RopeText). IsUtf8 r.bytes) c.self.view_is
    (pieces_valid c.self.inside.pieces.items c.self.invariant.each) in
    let no : c.is_cut.result ≡ false = first_of (cc, search (rules, not_true, c.if-not-is_cut.true)) in (
      inl (inr (
        there,
        inl (
          λ u. let yes =
              c.is_cut.ensures.1 (subst (λ n. IsCharBoundary b n) (sym c.place_of_cut-whole.ensures.place)
              (IsCharBoundary-from_take b c.args.count valid there u)) in cc,
          refl,
        ),
      )),
      refl,
    )

pub split_to-requires-clause-cut : goal.split_to-requires-clause-cut
split_to-requires-clause-cut g c =
    let yes : c.is_cut.result ≡ true = first_of (cc, search (rules, not_false, c.if-not-is_cut.false)) in
    subst (λ n. IsCharBoundary c.args.self.now.bytes n) c.place_of_cut-whole.ensures.place (c.is_cut.ensures.0 yes)

pub returns : goal.returns
returns g c =
    let b = c.args.self.now.bytes in
    let count = c.self.invariant.counts in
    let size = ap (λ (r : RopeText). length r.bytes) c.self.view_is in
    let there : c.args.count ≤ length b = omega arith in
    let valid = subst (λ (r : RopeText). IsUtf8 r.bytes) c.self.view_is
    (pieces_valid c.self.inside.pieces.items c.self.invariant.each) in
    let yes : c.is_cut.result ≡ true = first_of (cc, search (rules, not_false, c.if-not-is_cut.false)) in
    splits_off c.args.count c.args.self.now c.split_to.result c.split_to.new.self there
    (IsUtf8-take b c.args.count valid
    (subst (λ n. IsCharBoundary b n) c.place_of_cut-whole.ensures.place (c.is_cut.ensures.0 yes)))
    c.split_to.ensures
