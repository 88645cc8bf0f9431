-- The bytes that each piece has of a slice.
use Rattle.std.proofs.Common.{◌≡◌, ℕ, zero, suc, ◌+◌, ◌-◌, ◌<◌, ◌≤◌, min, List, [], ◌∷◌, length, map, take, drop, refl}
use Rattle.std.proofs.Common.{sym, ap, ◌∙◌, arith, inl, inr}
use Rattle.std.specs.Prelude.{All}
use Rattle.std.proofs.lemmas.Bool.{cases_lt}
use Rattle.std.proofs.lemmas.List.{length-append, length-drop, length-take, drop_all, drop_more, take_all}
use Rattle.std.proofs.lemmas.List.Elements.{All-head, All-tail}
use Rattle.rope_text.specs.Parts.{shares_of, with_some}
use Rattle.rope_text.specs.Ropes.{IsPiece, piece_at}
use Rattle.tendril_text.specs.TextLists.{bytes_of_all, no_text}
use Rattle.tendril_text.specs.Texts.{Text}

with_some_cons : (b : List ℕ) (others : List (List ℕ)) → 0 < length b → with_some b others ≡ b ∷ others
with_some_cons [] others h = absurd (omega arith)
with_some_cons (x ∷ xs) others h = refl

with_some_nil : (b : List ℕ) (others : List (List ℕ)) → length b ≡ 0 → with_some b others ≡ others
with_some_nil [] others h = refl
with_some_nil (x ∷ xs) others h = absurd (omega arith)

-- a slice of no bytes
pub shares_of_none : (xs : List Text) (at : ℕ) → shares_of xs at 0 ≡ []
shares_of_none [] at = refl
shares_of_none (x ∷ xs) at = let e : 0 - (length x.bytes - at) ≡ 0 = omega arith in
    ap (λ n. shares_of xs (at - length x.bytes) n) e ∙ shares_of_none xs (at - length x.bytes)

first_share : (x : Text) (xs : List Text) (at left here : ℕ) (part : List ℕ) → at < length x.bytes → 0 < left
    → here ≡ min left (length x.bytes - at) → part ≡ take here (drop at x.bytes) → shares_of (x ∷ xs) at left
    ≡ part ∷ shares_of xs 0 (left - here)
first_share x xs at left here part inside some is e =
    let size : length (drop at x.bytes) ≡ length x.bytes - at = length-drop at x.bytes in
    let same : take left (drop at x.bytes) ≡ part =
    elim (cases_lt left (length x.bytes - at)) [
      | inl short ↦ ap (λ n. take n (drop at x.bytes)) (omega arith) ∙ sym e
      | inr long ↦ take_all left (drop at x.bytes) (omega arith) ∙ sym (take_all here (drop at x.bytes) (omega arith))
          ∙ sym e
    ] in
    let filled : 0 < length part = rw e (rw length-take (omega arith)) in
    let none : at - length x.bytes ≡ 0 = omega arith in
    let less : left - (length x.bytes - at) ≡ left - here = omega arith in
    ap (λ l. with_some l (shares_of xs (at - length x.bytes) (left - (length x.bytes - at)))) same
    ∙ with_some_cons part (shares_of xs (at - length x.bytes) (left - (length x.bytes - at))) filled
    ∙ ap (λ n. part ∷ shares_of xs n (left - (length x.bytes - at))) none
    ∙ ap (λ n. part ∷ shares_of xs 0 n) less

-- the bytes of the next piece, and those of the others
pub shares_of_more : (xs : List Text) (index at left here : ℕ) (part : List ℕ) → index < length xs
    → at < length (piece_at xs index).bytes → 0 < left → here ≡ min left (length (piece_at xs index).bytes - at)
    → part ≡ take here (drop at (piece_at xs index).bytes) → shares_of (drop index xs) at left
    ≡ part ∷ shares_of (drop (index + 1) xs) 0 (left - here)
shares_of_more xs index at left here part h inside some is e =
    ap (λ l. shares_of l at left) (drop_more xs index no_text h)
    ∙ first_share (piece_at xs index) (drop (index + 1) xs) at left here part inside some is e

-- pieces before the slice have none of its bytes
pub shares_of_past : (xs : List Text) (first from at count : ℕ) → length (bytes_of_all (take first xs)) + from ≡ at
    → shares_of xs at count ≡ shares_of (drop first xs) from count
shares_of_past xs zero from at count e = let is : at ≡ from = omega arith in ap (λ n. shares_of xs n count) is
shares_of_past [] (suc first) from at count e = refl
shares_of_past (x ∷ xs) (suc first) from at count e =
    let size : length (bytes_of_all (take (suc first) (x ∷ xs)))
    ≡ length x.bytes + length (bytes_of_all (take first xs)) =
    length-append x.bytes (bytes_of_all (take first xs)) in
    let past : length x.bytes ≤ at = omega arith in
    let none : length (take count (drop at x.bytes)) ≡ 0 = ap (λ l. length (take count l)) (drop_all at x.bytes past)
    ∙ ap length (take_all count [] (omega arith)) in
    let less : count - (length x.bytes - at) ≡ count = omega arith in
    with_some_nil (take count (drop at x.bytes)) (shares_of xs (at - length x.bytes) (count - (length x.bytes - at)))
    none
    ∙ ap (λ n. shares_of xs (at - length x.bytes) n) less
    ∙ shares_of_past xs first from (at - length x.bytes) count (omega arith)

-- a slice of all bytes has all pieces
pub shares_of_all : (xs : List Text) (count : ℕ) → All IsPiece xs → count ≡ length (bytes_of_all xs)
    → shares_of xs 0 count ≡ map (λ t. t.bytes) xs
shares_of_all [] count each e = refl
shares_of_all (x ∷ xs) count each e =
    let size : length (bytes_of_all (x ∷ xs)) ≡ length x.bytes + length (bytes_of_all xs) =
    length-append x.bytes (bytes_of_all xs) in
    let some = (All-head IsPiece x xs each).some in
    let here : length x.bytes ≡ min count (length x.bytes - 0) = omega arith in
    let all : x.bytes ≡ take (length x.bytes) (drop 0 x.bytes) =
    sym (take_all (length x.bytes) x.bytes (omega arith)) in
    first_share x xs 0 count (length x.bytes) x.bytes some (omega arith) here all
    ∙ ap (λ l. x.bytes ∷ l) (shares_of_all xs (count - length x.bytes) (All-tail IsPiece x xs each) (omega arith))
