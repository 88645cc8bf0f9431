-- A slice of a rope, built piece by piece.
use Rattle.std.proofs.Common.{◌≡◌, ℕ, ◌+◌, ◌-◌, ◌<◌, ◌≤◌, min, List, [], ◌∷◌, ◌++◌, length, map, take, drop, sym}
use Rattle.std.proofs.Common.{ap, ◌∙◌, subst, arith, append_assoc, append-nil, inl, inr}
use Rattle.std.specs.Prelude.{IsUtf8, All}
use Rattle.std.proofs.lemmas.Bool.{cases_lt}
use Rattle.std.proofs.lemmas.List.{length-append, length-take, length-drop, drop_more, drop_all, take-append-drop}
use Rattle.std.proofs.lemmas.List.{map-append}
use Rattle.std.proofs.lemmas.List.Elements.{All-append, All-get_or}
use Rattle.rope_text.proofs.Cuts.{IsParted, parted_short, parted_long}
use Rattle.rope_text.proofs.Joined.{length_joined_more, joined_drop_more}
use Rattle.rope_text.proofs.PartsOf.{shares_of_more, shares_of_none}
use Rattle.rope_text.proofs.Shared.{shares_piece}
use Rattle.rope_text.specs.Ropes.{IsPiece, piece_at}
use Rattle.rope_text.specs.Parts.{HasLongShare, shares_of}
use Rattle.tendril_text.proofs.TextLists.{unless_empty_some}
use Rattle.tendril_text.specs.TextLists.{bytes_of_all, unless_empty, no_text}
use Rattle.tendril_text.specs.Texts.{Text, ShareCost}

-- The slice of `count` bytes from the offset `from` in the piece `first` on is built so far: it has the bytes `built`
-- in these pieces, and `left` bytes are missing, from the offset `at` in the piece `index` on.
pub record IsSharing (xs : List Text) (first from count index at left : ℕ) (built : List ℕ)
    (pieces : List Text) : Type 0 where
  pub most : left ≤ count
  pub within : at + left ≤ length (bytes_of_all (drop index xs))
  pub valid : IsUtf8 (take left (drop at (bytes_of_all (drop index xs))))
  pub inside : 0 < left → at < length (piece_at xs index).bytes
  pub place : 0 < left → length (bytes_of_all (take index xs)) + at + left
      ≡ length (bytes_of_all (take first xs)) + from + count
  pub bytes : built ++ take left (drop at (bytes_of_all (drop index xs)))
      ≡ take count (drop from (bytes_of_all (drop first xs)))
  pub shares : All ShareCost pieces
  pub cut_so : map (λ t. t.bytes) pieces ++ shares_of (drop index xs) at left ≡ shares_of (drop first xs) from count

-- if bytes are missing, there is a piece to take them from
pub in_pieces : (xs : List Text) (index at left : ℕ) → at + left ≤ length (bytes_of_all (drop index xs)) → 0 < left
    → index < length xs
in_pieces xs index at left h some =
    elim (cases_lt index (length xs)) [
      | inl k ↦ k
      | inr past ↦ absurd (let e : length (bytes_of_all (drop index xs)) ≡ 0 =
          ap (λ l. length (bytes_of_all l)) (drop_all index xs past) in omega arith)
    ]

pub parted : (xs : List Text) (index at left here : ℕ) → All IsPiece xs → index < length xs
    → at < length (piece_at xs index).bytes → at + left ≤ length (bytes_of_all (drop index xs))
    → here ≡ min left (length (piece_at xs index).bytes - at)
    → IsUtf8 (take left (drop at (bytes_of_all (drop index xs))))
    → IsParted (piece_at xs index).bytes (bytes_of_all (drop (index + 1) xs)) at left here
parted xs index at left here each h inside within is u =
    let p = (piece_at xs index).bytes in
    let q = bytes_of_all (drop (index + 1) xs) in
    let e : bytes_of_all (drop index xs) ≡ p ++ q = joined_drop_more xs index h in
    let v : IsUtf8 p = (All-get_or IsPiece xs index no_text h each).valid in
    let w : IsUtf8 (take left (drop at (p ++ q))) = subst (λ l. IsUtf8 (take left (drop at l))) e u in
    let size : length (bytes_of_all (drop index xs)) ≡ length p + length q = ap length e ∙ length-append p q in
    elim (cases_lt (length p) (at + left)) [
      | inr short ↦ let n : here ≡ left = omega arith in rw n (parted_short p q at left short w)
      | inl long ↦ let n : here ≡ length p - at = omega arith in
          rw n (parted_long p q at left v inside (omega arith) (omega arith) w)
    ]

-- how many bytes are built
pub length_built : (xs : List Text) (first from count index at left : ℕ) (built : List ℕ) (pieces : List Text)
    → from + count ≤ length (bytes_of_all (drop first xs)) → IsSharing xs first from count index at left built pieces
    → length built + left ≡ count
length_built xs first from count index at left built pieces h s =
    let rest = take left (drop at (bytes_of_all (drop index xs))) in
    let a : length rest ≡ left = let w = s.within in simp (length-take, length-drop) (omega arith) in
    let b : length (take count (drop from (bytes_of_all (drop first xs)))) ≡ count =
    simp (length-take, length-drop) (omega arith) in
    let c : length built + length rest ≡ length (take count (drop from (bytes_of_all (drop first xs)))) =
    sym (length-append built rest) ∙ ap length s.bytes in
    omega arith

-- one more piece
pub IsSharing-more : (xs : List Text) (first from count index at left here : ℕ) (built : List ℕ) (part : Text)
    (pieces : List Text)
    → All IsPiece xs → 0 < left → here ≡ min left (length (piece_at xs index).bytes - at) → part.bytes
    ≡ take here (drop at (piece_at xs index).bytes) → ShareCost part
    → IsSharing xs first from count index at left built pieces
    → IsSharing xs first from count (index + 1) 0 (left - here) (built ++ part.bytes) (pieces ++ unless_empty part)
IsSharing-more xs first from count index at left here built part pieces each some is e m s =
    let p = (piece_at xs index).bytes in
    let q = bytes_of_all (drop (index + 1) xs) in
    let h : index < length xs = in_pieces xs index at left s.within some in
    let i = s.inside some in
    let both = parted xs index at left here each h i s.within is s.valid in
    let same : bytes_of_all (drop index xs) ≡ p ++ q = joined_drop_more xs index h in
    let size : length (bytes_of_all (drop index xs)) ≡ length p + length q = ap length same ∙ length-append p q in
    let w = s.within in
    let fits : 0 + (left - here) ≤ length q = omega arith in
    record {
      most = let most = s.most in omega arith;
      within = fits;
      valid = both.rest_valid;
      inside = λ k. (All-get_or IsPiece xs (index + 1) no_text (in_pieces xs (index + 1) 0 (left - here) fits k)
          each).some;
      place = λ k. let was = s.place some in let longer = length_joined_more xs index h in omega arith;
      bytes = append_assoc built part.bytes (take (left - here) (drop 0 q))
          ∙ ap (λ l. built ++ l) (ap (λ l. l ++ take (left - here) (drop 0 q)) e ∙ sym both.parts
          ∙ ap (λ l. take left (drop at l)) (sym same)) ∙ s.bytes;
      shares = All-append ShareCost pieces (unless_empty part) s.shares (shares_piece part m);
      cut_so =
          let len : length part.bytes ≡ here = ap length e ∙ simp (length-take, length-drop) (omega arith) in
          let one : map (λ t. t.bytes) (pieces ++ unless_empty part) ≡ map (λ t. t.bytes) pieces ++ part.bytes ∷ [] =
          ap (λ l. map (λ t. t.bytes) (pieces ++ l)) (unless_empty_some part (omega arith))
          ∙ map-append (λ t. t.bytes) pieces (part ∷ []) in
          ap (λ l. l ++ shares_of (drop (index + 1) xs) 0 (left - here)) one
          ∙ append_assoc (map (λ t. t.bytes) pieces) (part.bytes ∷ []) (shares_of (drop (index + 1) xs) 0 (left - here))
          ∙ ap (λ l. map (λ t. t.bytes) pieces ++ l)
          (sym (shares_of_more xs index at left here part.bytes h i some is e))
          ∙ s.cut_so;
    }

-- no bytes are missing
pub IsSharing-cut : (xs : List Text) (first from count index at : ℕ) (built : List ℕ) (pieces : List Text)
    → IsSharing xs first from count index at 0 built pieces → map (λ t. t.bytes) pieces
    ≡ shares_of (drop first xs) from count
IsSharing-cut xs first from count index at built pieces s = sym (append-nil (map (λ t. t.bytes) pieces))
    ∙ ap (λ l. map (λ t. t.bytes) pieces ++ l) (sym (shares_of_none (drop index xs) at)) ∙ s.cut_so

pub IsSharing-all : (xs : List Text) (first from count index at : ℕ) (built : List ℕ) (pieces : List Text)
    → IsSharing xs first from count index at 0 built pieces
    → built ≡ take count (drop from (bytes_of_all (drop first xs)))
IsSharing-all xs first from count index at built pieces s = sym (append-nil built) ∙ s.bytes

-- more than 8 bytes of a piece are shared next
pub long_share : (xs : List Text) (first from count index at left here : ℕ) (built : List ℕ) (pieces : List Text)
    → 0 < left → here ≡ min left (length (piece_at xs index).bytes - at) → 8 < here
    → IsSharing xs first from count index at left built pieces
    → HasLongShare xs (length (bytes_of_all (take first xs)) + from) count
long_share xs first from count index at left here built pieces some is long s =
    let h : index < length xs = in_pieces xs index at left s.within some in
    let i = s.inside some in
    let p = s.place some in
    let m = s.most in
    record {
      before = take index xs;
      piece = piece_at xs index;
      after = drop (index + 1) xs;
      parts = sym (take-append-drop index xs) ∙ ap (λ l. take index xs ++ l) (drop_more xs index no_text h);
      from = at;
      long = here;
      is_long = long;
      within = omega arith;
      begins = omega arith;
      ends = omega arith;
    }
