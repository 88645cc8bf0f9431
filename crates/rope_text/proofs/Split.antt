-- Ropes that are cut in two.
use Rattle.std.proofs.Common.{◌≡◌, ℕ, ◌+◌, ◌-◌, ◌%◌, ◌^◌, ◌<◌, ◌≤◌, List, [], ◌∷◌, ◌++◌, length, get_or, set, take}
use Rattle.std.proofs.Common.{drop, Result, Ok, Err, refl, sym, ap, ◌∙◌, subst, arith, append-nil, inl, inr}
use Rattle.std.specs.Prelude.{IsUtf8, All}
use Rattle.std.specs.Str.{IsCharBoundary}
use Rattle.std.proofs.lemmas.List.{length-append, length-take, drop-append-le, drop_more, get_or-drop, get_or_read}
use Rattle.std.proofs.lemmas.List.{take-append-drop, take-append-le}
use Rattle.std.proofs.lemmas.List.Elements.{All-cons, All-drop, All-get_or}
use Rattle.std.proofs.lemmas.Str.{IsUtf8-nil, IsUtf8-take, IsUtf8-drop}
use Rattle.std.proofs.Math.Seq.{drop-append-add, take-append-add}
use Rattle.tendril_errors.specs.declared.refusal.Refusal.{Refusal}
use Rattle.tendril_errors.specs.Outcomes.{NoneMust, Outcome}
use Rattle.rope_text.proofs.Built.{IsRope-drop, IsRope-push, IsRope-take}
use Rattle.rope_text.proofs.Ends.{AreEnds-drop, AreEnds-left, wrapped_twice}
use Rattle.rope_text.proofs.Joined.{joined_both, joined_drop_more, length_joined_both}
use Rattle.rope_text.proofs.Located.{cut_in_piece}
use Rattle.rope_text.specs.Ropes.{AreEnds, IsPiece, IsRope, RopeText, piece_at}
use Rattle.rope_text.specs.Splits.{HasLongFront, IsCutAt, SplitMay, SplitsOff}
use Rattle.tendril_text.proofs.TextLists.{joined_push}
use Rattle.tendril_text.specs.TextLists.{bytes_of_all, no_text}
use Rattle.tendril_text.specs.Texts.{Text, PopCost, ShareCost}

-- the rope that has these pieces
abbrev pub rope_of : List Text → RopeText
rope_of xs = record { bytes = bytes_of_all xs; pieces = xs }

-- the pieces of a rope are split into those of two ropes
pub record IsSplit (xs fronts rests : List Text) (s count total : ℕ) (front_ends rest_ends : List ℕ) : Type 0 where
  pub front : IsRope fronts s front_ends count
  pub rest : IsRope rests ((s + count) % 2 ^ 64) rest_ends (total - count)
  pub cut : IsCutAt count (rope_of xs) (rope_of fronts) (rope_of rests)

-- the bytes before an offset in a piece, and those after it
before_place : (xs : List Text) (whole within : ℕ) → whole < length xs → within ≤ length (piece_at xs whole).bytes
    → take (length (bytes_of_all (take whole xs)) + within) (bytes_of_all xs)
    ≡ bytes_of_all (take whole xs) ++ take within (piece_at xs whole).bytes
before_place xs whole within h k =
    let a = bytes_of_all (take whole xs) in
    let p = (piece_at xs whole).bytes in
    let q = bytes_of_all (drop (whole + 1) xs) in
    ap (λ l. take (length a + within) l) (joined_both xs whole ∙ ap (λ l. a ++ l) (joined_drop_more xs whole h))
    ∙ take-append-add a (p ++ q) within ∙ ap (λ l. a ++ l) (take-append-le within p q k)

behind_place : (xs : List Text) (whole within : ℕ) → whole < length xs → within ≤ length (piece_at xs whole).bytes
    → drop (length (bytes_of_all (take whole xs)) + within) (bytes_of_all xs) ≡ drop within (piece_at xs whole).bytes
    ++ bytes_of_all (drop (whole + 1) xs)
behind_place xs whole within h k =
    let a = bytes_of_all (take whole xs) in
    let p = (piece_at xs whole).bytes in
    let q = bytes_of_all (drop (whole + 1) xs) in
    ap (λ l. drop (length a + within) l) (joined_both xs whole ∙ ap (λ l. a ++ l) (joined_drop_more xs whole h))
    ∙ drop-append-add a (p ++ q) within ∙ drop-append-le within p q k

-- a cut between two pieces
pub split_between : (xs : List Text) (s whole total count : ℕ) (ends : List ℕ) → whole ≤ length xs
    → length (bytes_of_all (take whole xs)) ≡ count → IsRope xs s ends total
    → IsSplit xs (take whole xs) (drop whole xs) s count total (take whole ends) (drop whole ends)
split_between xs s whole total count ends h is r =
    let a = bytes_of_all (take whole xs) in
    let b = bytes_of_all (drop whole xs) in
    let both = length_joined_both xs whole in
    let t = r.counts in
    let none : count ≡ length a + 0 = omega arith in
    record {
      front = IsRope-take xs whole s total count ends h (sym is) r;
      rest = IsRope-drop xs whole s ((s + count) % 2 ^ 64) total (total - count) ends h
          (ap (λ n. (s + n) % 2 ^ 64) (sym is)) (omega arith) r;
      cut = record {
        front_bytes = sym (ap (λ n. take n (bytes_of_all xs)) none
            ∙ ap (λ l. take (length a + 0) l) (joined_both xs whole) ∙ take-append-add a b 0 ∙ append-nil a);
        rest_bytes = sym (ap (λ n. drop n (bytes_of_all xs)) none
            ∙ ap (λ l. drop (length a + 0) l) (joined_both xs whole) ∙ drop-append-add a b 0);
        pieces = inl (sym (take-append-drop whole xs));
      };
    }

-- a cut within a piece
pub split_within : (xs : List Text) (s whole within total count : ℕ) (part t left : Text) (ends : List ℕ)
    → whole < length xs → 0 < within → within < length (piece_at xs whole).bytes
    → length (bytes_of_all (take whole xs)) + within ≡ count
    → IsUtf8 (take within (piece_at xs whole).bytes) → IsUtf8 (drop within (piece_at xs whole).bytes) → part.bytes
    ≡ take within (piece_at xs whole).bytes → ShareCost part → t ≡ piece_at xs whole → left.bytes
    ≡ drop within t.bytes → PopCost t left → IsRope xs s ends total
    → IsSplit xs (take whole xs ++ part ∷ []) (set (drop whole xs) 0 left) s count total
    (take whole ends ++ ((s + count) % 2 ^ 64) ∷ []) (drop whole ends)
split_within xs s whole within total count part t left ends h some inside is front_valid rest_valid has shares read
    has' keeps r =
    let p = piece_at xs whole in
    let rest = drop (whole + 1) xs in
    let a = bytes_of_all (take whole xs) in
    let same : left.bytes ≡ drop within p.bytes = has' ∙ ap (λ (u : Text). drop within u.bytes) read in
    let whole_bytes : p.bytes ≡ part.bytes ++ left.bytes =
    sym (ap (λ l. l ++ left.bytes) has ∙ ap (λ l. take within p.bytes ++ l) same
    ∙ take-append-drop within p.bytes) in
    let size : length p.bytes ≡ length part.bytes + length left.bytes = ap length whole_bytes
    ∙ length-append part.bytes left.bytes in
    let part_len : length part.bytes ≡ within = ap length has ∙ rw length-take (omega arith) in
    let piece = All-get_or IsPiece xs whole no_text h r.each in
    let short = piece.short in
    let more = drop_more xs whole no_text h in
    let had : drop whole xs ≡ p ∷ rest = more in
    let set_is : set (drop whole xs) 0 left ≡ left ∷ rest = ap (λ l. set l 0 left) had in
    let both = length_joined_both xs whole in
    let behind : length (bytes_of_all (drop whole xs)) ≡ length p.bytes + length (bytes_of_all rest) =
    ap length (joined_drop_more xs whole h) ∙ length-append p.bytes (bytes_of_all rest) in
    let left_all : length (bytes_of_all (left ∷ rest)) ≡ length left.bytes + length (bytes_of_all rest) =
    length-append left.bytes (bytes_of_all rest) in
    let t' = r.counts in
    let f = r.fits in
    let mid = (s + length a) % 2 ^ 64 in
    let places = AreEnds-drop xs whole s mid ends (omega arith) refl r.places in
    let moved : (s + count) % 2 ^ 64 ≡ (mid + within) % 2 ^ 64 = ap (λ n. (s + n) % 2 ^ 64) (sym is)
    ∙ sym (wrapped_twice s (length a) within) in
    record {
      front = IsRope-push (take whole xs) part s ((s + count) % 2 ^ 64) (length a) count (take whole ends)
          (IsRope-take xs whole s total (length a) ends (omega arith) refl r)
          (record { some = omega arith; short = omega arith; valid = subst IsUtf8 (sym has) front_valid })
          (omega arith) (omega arith) refl;
      rest = rw set_is (record {
        each = All-cons IsPiece left rest
            (record { some = omega arith; short = omega arith; valid = subst IsUtf8 (sym same) rest_valid })
            (All-drop IsPiece (whole + 1) xs r.each);
        counts = omega arith;
        fits = omega arith;
        places = AreEnds-left p left rest mid ((s + count) % 2 ^ 64) within (drop whole ends) (omega arith) moved
            (subst (λ l. AreEnds l mid (drop whole ends)) had places);
      });
      cut = rw set_is (record {
        front_bytes = joined_push (take whole xs) part ∙ ap (λ l. a ++ l) has
            ∙ sym (before_place xs whole within h (omega arith)) ∙ ap (λ n. take n (bytes_of_all xs)) is;
        rest_bytes = ap (λ l. l ++ bytes_of_all rest) same ∙ sym (behind_place xs whole within h (omega arith))
            ∙ ap (λ n. drop n (bytes_of_all xs)) is;
        pieces = inr (record {
          before = take whole xs;
          piece = p;
          after = rest;
          left = part;
          right = left;
          had = sym (take-append-drop whole xs) ∙ ap (λ l. take whole xs ++ l) had;
          front_has = refl;
          rest_has = refl;
          whole = whole_bytes;
          shares = shares;
          keeps = subst (λ u. PopCost u left) read keeps;
        });
      });
    }

-- more than 8 bytes of a piece are before the cut
pub long_front : (xs : List Text) (whole within count : ℕ) → whole < length xs
    → within < length (piece_at xs whole).bytes → length (bytes_of_all (take whole xs)) + within ≡ count → 8 < within
    → HasLongFront xs count
long_front xs whole within count h inside is long = record {
  before = take whole xs;
  piece = piece_at xs whole;
  after = drop (whole + 1) xs;
  parts = sym (take-append-drop whole xs) ∙ ap (λ l. take whole xs ++ l) (drop_more xs whole no_text h);
  is_long = omega arith;
  within = omega arith;
}

-- both slices of a piece that is cut at a character boundary are UTF-8
pub front_of_piece : (xs : List Text) (whole within count : ℕ) → All IsPiece xs → whole < length xs
    → within < length (piece_at xs whole).bytes → length (bytes_of_all (take whole xs)) + within ≡ count
    → IsCharBoundary (bytes_of_all xs) count → IsUtf8 (take within (piece_at xs whole).bytes)
    × IsUtf8 (drop within (piece_at xs whole).bytes)
front_of_piece xs whole within count each h inside is cut =
    let p = (piece_at xs whole).bytes in
    let v = (All-get_or IsPiece xs whole no_text h each).valid in
    let here = (cut_in_piece xs whole within count h inside is).1 cut in
    (IsUtf8-take p within v here, IsUtf8-drop p within v here)

-- the first piece after the cut
pub first_left : (xs : List Text) (whole : ℕ) (t : Text) → whole < length xs → t ≡ get_or (drop whole xs) 0 t
    → t ≡ piece_at xs whole
first_left xs whole t h e =
    let z : whole + 0 ≡ whole = omega arith in
    get_or_read xs whole t h (e ∙ get_or-drop whole xs 0 t ∙ ap (λ n. get_or xs n t) z) no_text

-- the same cut of the same rope
pub cut_as : (count : ℕ) (xs fronts rests zs ws : List Text) (rope : RopeText) → zs ≡ fronts → ws ≡ rests → rope_of xs
    ≡ rope → IsCutAt count (rope_of xs) (rope_of fronts) (rope_of rests) → IsCutAt count rope (rope_of zs) (rope_of ws)
cut_as count xs fronts rests zs ws rope e f is h =
    subst (λ r. IsCutAt count r (rope_of zs) (rope_of ws)) is
    (subst (λ l. IsCutAt count (rope_of xs) (rope_of l) (rope_of ws)) (sym e)
    (subst (λ l. IsCutAt count (rope_of xs) (rope_of fronts) (rope_of l)) (sym f) h))

-- if the first bytes are there and UTF-8, `try_split_to` does what `split_to` does
pub splits_off : (count : ℕ) (rope : RopeText) (result : Result RopeText Refusal) (new : RopeText)
    → count ≤ length rope.bytes → IsUtf8 (take count rope.bytes)
    → Outcome NoneMust (SplitMay rope.pieces count) (λ front rest. IsCutAt count rope front rest) rope result new
    → SplitsOff count rope result new
splits_off count rope (Ok front) new there valid h = ((there, (valid, tt)), h.1)
splits_off count rope (Err r) new there valid (inl x, same) = absurd x
splits_off count rope (Err r) new there valid (inr y, same) = (inr ((there, (valid, tt)), y.1), same)

-- a split after no bytes
splits_nothing : (rope made : RopeText) → made.bytes ≡ [] → made.pieces ≡ [] → SplitsOff 0 rope (Ok made) rope
splits_nothing rope made none no_pieces = (
  (omega arith, (IsUtf8-nil, tt)),
  record { front_bytes = none; rest_bytes = refl; pieces = inl (sym (ap (λ l. l ++ rope.pieces) no_pieces)) },
)

pub splits_none : (count : ℕ) (rope made : RopeText) → count ≡ 0 → made.bytes ≡ [] → made.pieces ≡ []
    → SplitsOff count rope (Ok made) rope
splits_none count rope made is none no_pieces = subst (λ n. SplitsOff n rope (Ok made) rope) (sym is)
    (splits_nothing rope made none no_pieces)
