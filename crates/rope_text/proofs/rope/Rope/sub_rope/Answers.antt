use Rattle.std.proofs.Common.{rules, ◌≡◌, ◌+◌, ◌<◌, ◌≤◌, length, take, true, false, refl, sym, ap, subst, arith, inl}
use Rattle.std.proofs.Common.{inr}
use Rattle.std.specs.Prelude.{IsUtf8}
use Rattle.std.specs.Str.{IsCharBoundary}
use Rattle.rope_text.proofs.Cuts.{begins_at_cut, between_cuts, ends_at_cut}
use Rattle.std.proofs.lemmas.Bool.{cases_lt}
use Rattle.rope_text.proofs.Joined.{pieces_valid, length_joined_both, length_joined_more}
use Rattle.rope_text.proofs.Passed.{length_joined_upto}
use Rattle.rope_text.proofs.Shared.{drop_joined, not_false, not_true, sub_rope_from, sub_rope_none}
use Rattle.rope_text.specs.Ropes.{RopeText, piece_at}
use Rattle.tendril_text.specs.TextLists.{bytes_of_all}
use Rattle.rope_text.proofs.rope.Rope.sub_rope.Goals as goal

pub returns-then-count-eq0 : goal.returns-then-count-eq0
returns-then-count-eq0 g c =
    let count = c.self.invariant.counts in
    let size = ap (λ (r : RopeText). length r.bytes) c.self.view_is in
    sub_rope_none c.args.self.now c.new.result c.args.offset c.args.count c.if-count-eq0.true
    (omega arith) c.new.ensures.bytes c.new.ensures.pieces

pub returns-then-not-is_cut : goal.returns-then-not-is_cut
returns-then-not-is_cut g c =
    let b = c.args.self.now.bytes in
    let count = c.self.invariant.counts in
    let size = ap (λ (r : RopeText). length r.bytes) c.self.view_is in
    let there : c.args.offset + c.args.count ≤ length b = omega arith in
    let no : c.is_cut.result ≡ false = first_of (cc, search (rules, not_true, c.if-not-is_cut.true)) in
    inl (inr (
      there,
      inl (
        λ u. let yes =
            c.is_cut.ensures.1 (subst (λ n. IsCharBoundary b n) (sym c.locate-first.ensures.place)
            (begins_at_cut b c.args.offset c.args.count there (omega arith) u)) in cc,
        refl,
      ),
    ))

pub returns-then-not-is_cut-2 : goal.returns-then-not-is_cut-2
returns-then-not-is_cut-2 g c =
    let b = c.args.self.now.bytes in
    let count = c.self.invariant.counts in
    let size = ap (λ (r : RopeText). length r.bytes) c.self.view_is in
    let there : c.args.offset + c.args.count ≤ length b = omega arith in
    let valid = subst (λ (r : RopeText). IsUtf8 r.bytes) c.self.view_is
    (pieces_valid c.self.inside.pieces.items c.self.invariant.each) in
    let no : c.is_cut-2.result ≡ false = first_of (cc, search (rules, not_true, c.if-not-is_cut-2.true)) in
    let end_place : length (bytes_of_all (take c.locate_from-last.result.0 c.args.self.now.pieces)) +
    (c.locate_from-last.result.1 + 1) ≡ c.args.offset + c.args.count = let p = c.locate_from-last.ensures.place in
    omega arith in
    inl (inr (
      there,
      inl (
        λ u. let yes =
            c.is_cut-2.ensures.1 (subst (λ n. IsCharBoundary b n) (sym end_place)
            (ends_at_cut b c.args.offset c.args.count valid there (omega arith) u)) in cc,
        refl,
      ),
    ))

-- the last byte isn't in a piece before the first byte's
pub overflow_sub-last : goal.overflow_sub-last
overflow_sub-last g c =
    let xs = c.args.self.now.pieces in
    let first = c.locate-first.result.0 in
    let last = c.locate_from-last.result.0 in
    elim (cases_lt last first) [
      | inl before ↦
          let upto = length_joined_upto xs (last + 1) first (omega arith) in
          let more = length_joined_more xs last c.locate_from-last.ensures.piece in
          let from = c.locate-first.ensures.place in
          let to = c.locate_from-last.ensures.place in
          absurd (omega (arith, upto, more, from, to, c.locate_from-last.ensures.within))
      | inr after ↦ omega arith
    ]

pub share-requires-clause-inside : goal.share-requires-clause-inside
share-requires-clause-inside g c =
    subst (λ (r : RopeText). c.locate-first.result.1 < length (piece_at r.pieces c.locate-first.result.0).bytes)
    (sym c.self.view_is) c.locate-first.ensures.within

pub share-requires-clause-within : goal.share-requires-clause-within
share-requires-clause-within g c =
    let xs = c.self.inside.pieces.items in
    let first = c.locate-first.result.0 in
    let from = c.locate-first.result.1 in
    let both = length_joined_both xs first in
    let count = c.self.invariant.counts in
    let place : length (bytes_of_all (take first xs)) + from ≡ c.args.offset =
    subst (λ (r : RopeText). length (bytes_of_all (take first r.pieces)) + from ≡ c.args.offset)
    (sym c.self.view_is) c.locate-first.ensures.place in
    omega arith

pub share-requires-clause-valid : goal.share-requires-clause-valid
share-requires-clause-valid g c =
    let xs = c.self.inside.pieces.items in
    let first = c.locate-first.result.0 in
    let from = c.locate-first.result.1 in
    let place : length (bytes_of_all (take first xs)) + from ≡ c.args.offset =
    subst (λ (r : RopeText). length (bytes_of_all (take first r.pieces)) + from ≡ c.args.offset)
    (sym c.self.view_is) c.locate-first.ensures.place in
    let yes : c.is_cut.result ≡ true = first_of (cc, search (rules, not_false, c.if-not-is_cut.false)) in
    let yes-2 : c.is_cut-2.result ≡ true = first_of (cc, search (rules, not_false, c.if-not-is_cut-2.false)) in
    let begin = subst (λ (r : RopeText). IsCharBoundary r.bytes c.args.offset) (sym c.self.view_is)
    (subst (λ n. IsCharBoundary c.args.self.now.bytes n) c.locate-first.ensures.place (c.is_cut.ensures.0 yes)) in
    let end_place : length (bytes_of_all (take c.locate_from-last.result.0 c.args.self.now.pieces)) +
    (c.locate_from-last.result.1 + 1) ≡ c.args.offset + c.args.count = let p = c.locate_from-last.ensures.place in
    omega arith in
    let end = subst (λ (r : RopeText). IsCharBoundary r.bytes (c.args.offset + c.args.count)) (sym c.self.view_is)
    (subst (λ n. IsCharBoundary c.args.self.now.bytes n) end_place (c.is_cut-2.ensures.0 yes-2)) in
    rw (drop_joined xs first from c.args.offset place)
    (between_cuts (bytes_of_all xs) c.args.offset c.args.count (pieces_valid xs c.self.invariant.each) begin end)

pub returns : goal.returns
returns g c =
    let xs = c.self.inside.pieces.items in
    let first = c.locate-first.result.0 in
    let from = c.locate-first.result.1 in
    let count = c.self.invariant.counts in
    let place : length (bytes_of_all (take first xs)) + from ≡ c.args.offset =
    subst (λ (r : RopeText). length (bytes_of_all (take first r.pieces)) + from ≡ c.args.offset)
    (sym c.self.view_is) c.locate-first.ensures.place in
    let yes : c.is_cut.result ≡ true = first_of (cc, search (rules, not_false, c.if-not-is_cut.false)) in
    let yes-2 : c.is_cut-2.result ≡ true = first_of (cc, search (rules, not_false, c.if-not-is_cut-2.false)) in
    let begin = subst (λ (r : RopeText). IsCharBoundary r.bytes c.args.offset) (sym c.self.view_is)
    (subst (λ n. IsCharBoundary c.args.self.now.bytes n) c.locate-first.ensures.place (c.is_cut.ensures.0 yes)) in
    let end_place : length (bytes_of_all (take c.locate_from-last.result.0 c.args.self.now.pieces)) +
    (c.locate_from-last.result.1 + 1) ≡ c.args.offset + c.args.count = let p = c.locate_from-last.ensures.place in
    omega arith in
    let end = subst (λ (r : RopeText). IsCharBoundary r.bytes (c.args.offset + c.args.count)) (sym c.self.view_is)
    (subst (λ n. IsCharBoundary c.args.self.now.bytes n) end_place (c.is_cut-2.ensures.0 yes-2)) in
    let valid = between_cuts (bytes_of_all xs) c.args.offset c.args.count (pieces_valid xs c.self.invariant.each)
    begin end in
    rw (← c.self.view_is) (sub_rope_from (record { bytes = bytes_of_all xs; pieces = xs }) first from c.args.offset
    c.args.count c.share.result refl place (omega arith) valid c.share.ensures)
