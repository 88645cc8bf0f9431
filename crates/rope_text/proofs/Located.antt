-- Offsets in pieces.
use Rattle.std.proofs.Common.{◌≡◌, ℕ, ◌+◌, ◌-◌, ◌<◌, ◌≤◌, List, ◌++◌, length, get_or, take, drop, refl, sym, ap, ◌∙◌}
use Rattle.std.proofs.Common.{arith, inl, inr}
use Rattle.std.specs.Prelude.{◌↔◌, All}
use Rattle.std.specs.Str.{IsCharBoundary}
use Rattle.rope_text.proofs.Cuts.{same_cut}
use Rattle.std.proofs.lemmas.Bool.{cases_lt}
use Rattle.std.proofs.lemmas.List.Elements.{All-take}
use Rattle.std.proofs.lemmas.Str.{IsCharBoundary-from_take}
use Rattle.rope_text.proofs.Joined.{joined_both, joined_byte, joined_drop_more, pieces_valid, length_joined_both}
use Rattle.rope_text.proofs.Joined.{length_joined_more}
use Rattle.std.proofs.lemmas.List.{length-append, length-drop, drop-append-le, take_all, take_at}
use Rattle.rope_text.proofs.Shared.{cut_at_end, drop_joined}
use Rattle.rope_text.specs.Ropes.{IsPiece, piece_at}
use Rattle.tendril_text.specs.TextLists.{bytes_of_all}
use Rattle.tendril_text.specs.Texts.{Text}

-- a byte of a piece is one of all bytes
pub in_joined : (xs : List Text) (i j : ℕ) → i < length xs → j < length (piece_at xs i).bytes
    → length (bytes_of_all (take i xs)) + j < length (bytes_of_all xs)
in_joined xs i j h k =
    let a = length_joined_both xs i in
    let b : length (bytes_of_all (drop i xs))
    ≡ length (piece_at xs i).bytes + length (bytes_of_all (drop (i + 1) xs)) = ap length (joined_drop_more xs i h)
    ∙ length-append (piece_at xs i).bytes (bytes_of_all (drop (i + 1) xs)) in
    omega arith

-- all bytes have a character boundary at a byte of a piece exactly if the piece has
pub cut_in_piece : (xs : List Text) (i j at : ℕ) → i < length xs → j < length (piece_at xs i).bytes
    → length (bytes_of_all (take i xs)) + j ≡ at → IsCharBoundary (piece_at xs i).bytes j
    ↔ IsCharBoundary (bytes_of_all xs) at
cut_in_piece xs i j at h k e =
    same_cut (bytes_of_all xs) (piece_at xs i).bytes at j (let n = in_joined xs i j h k in omega arith) k
    (ap (λ n. get_or (bytes_of_all xs) n 0) (sym e) ∙ joined_byte xs i j h k)

-- all bytes have a character boundary where a piece begins, and after the last one
pub cut_between : (xs : List Text) (i : ℕ) → All IsPiece xs
    → IsCharBoundary (bytes_of_all xs) (length (bytes_of_all (take i xs)))
cut_between xs i each =
    let a = bytes_of_all (take i xs) in
    let both = length_joined_both xs i in
    let front : take (length a) (bytes_of_all xs) ≡ a = ap (λ l. take (length a) l) (joined_both xs i)
    ∙ take_at a (bytes_of_all (drop i xs)) (length a) refl in
    IsCharBoundary-from_take (bytes_of_all xs) (length a) (pieces_valid xs each) (omega arith)
    (rw front (pieces_valid (take i xs) (All-take IsPiece i xs each)))

-- all bytes have a character boundary after j bytes of a piece exactly if the piece has
pub cut_behind : (xs : List Text) (i j : ℕ) → All IsPiece xs → i < length xs → j ≤ length (piece_at xs i).bytes
    → IsCharBoundary (piece_at xs i).bytes j ↔ IsCharBoundary (bytes_of_all xs) (length (bytes_of_all (take i xs)) + j)
cut_behind xs i j each h k =
    elim (cases_lt j (length (piece_at xs i).bytes)) [
      | inl inside ↦ cut_in_piece xs i j (length (bytes_of_all (take i xs)) + j) h inside refl
      | inr past ↦
          let more = length_joined_more xs i h in
          let is : length (bytes_of_all (take i xs)) + j ≡ length (bytes_of_all (take (i + 1) xs)) = omega arith in
          (λ _. rw is (cut_between xs (i + 1) each), λ _. cut_at_end (piece_at xs i).bytes j (omega arith))
    ]

-- the bytes r are in b, from an offset on
pub record StandAt (b r : List ℕ) (at : ℕ) : Type 0 where
  pub within : at + length r ≤ length b
  pub bytes : r ≡ take (length r) (drop at b)

-- the remainder of a piece is in all bytes
pub rest_stands : (xs : List Text) (i j at : ℕ) (p : List ℕ) → p ≡ (piece_at xs i).bytes → i < length xs
    → j < length (piece_at xs i).bytes → length (bytes_of_all (take i xs)) + j ≡ at
    → StandAt (bytes_of_all xs) (take (length p - j) (drop j p)) at
rest_stands xs i j at p is h k e =
    let q = bytes_of_all (drop (i + 1) xs) in
    let r = drop j p in
    let same : length p ≡ length (piece_at xs i).bytes = ap length is in
    let len : length r ≡ length p - j = length-drop j p in
    let whole : take (length p - j) r ≡ r = take_all (length p - j) r (omega arith) in
    let behind : drop at (bytes_of_all xs) ≡ r ++ q =
    sym (drop_joined xs i j at e) ∙ ap (λ l. drop j l) (joined_drop_more xs i h ∙ ap (λ l. l ++ q) (sym is))
    ∙ drop-append-le j p q (omega arith) in
    let both = length_joined_both xs i in
    let rest : length (bytes_of_all (drop i xs)) ≡ length (piece_at xs i).bytes + length q =
    ap length (joined_drop_more xs i h) ∙ length-append (piece_at xs i).bytes q in
    rw whole (record {
      within = omega arith;
      bytes = sym (ap (λ l. take (length r) l) behind ∙ take_at r q (length r) refl);
    })
