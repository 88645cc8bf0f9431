-- The bytes of pieces, one after another.
use Rattle.std.proofs.Common.{◌≡◌, ℕ, ◌+◌, ◌<◌, List, [], ◌∷◌, ◌++◌, length, get_or, take, drop, refl, sym, ap, ◌∙◌}
use Rattle.std.proofs.Common.{arith}
use Rattle.std.specs.Prelude.{IsUtf8, All}
use Rattle.std.proofs.lemmas.List.{length-append, take_more, drop_more, take-append-drop}
use Rattle.std.proofs.lemmas.List.Concat.{get_or-flat_map}
use Rattle.std.proofs.lemmas.List.Elements.{All-head}
use Rattle.rope_text.specs.Ropes.{IsPiece, piece_at}
use Rattle.tendril_text.proofs.TextLists.{joined-append, joined_push, joined_valid}
use Rattle.tendril_text.specs.TextLists.{bytes_of_all, no_text}
use Rattle.tendril_text.specs.Texts.{Text}

-- one more piece
pub length_joined_more : (xs : List Text) (i : ℕ) → i < length xs → length (bytes_of_all (take (i + 1) xs))
    ≡ length (bytes_of_all (take i xs)) + length (piece_at xs i).bytes
length_joined_more xs i h =
    ap (λ l. length (bytes_of_all l)) (take_more xs i no_text h) ∙ ap length (joined_push (take i xs) (piece_at xs i))
    ∙ length-append (bytes_of_all (take i xs)) (piece_at xs i).bytes

-- the bytes of a piece, and those after it
pub joined_drop_more : (xs : List Text) (i : ℕ) → i < length xs → bytes_of_all (drop i xs)
    ≡ (piece_at xs i).bytes ++ bytes_of_all (drop (i + 1) xs)
joined_drop_more xs i h = ap bytes_of_all (drop_more xs i no_text h)

-- the pieces before an index, and from it on
pub length_joined_both : (xs : List Text) (i : ℕ)
    → length (bytes_of_all (take i xs)) + length (bytes_of_all (drop i xs)) ≡ length (bytes_of_all xs)
length_joined_both xs i =
    sym (length-append (bytes_of_all (take i xs)) (bytes_of_all (drop i xs)))
    ∙ ap length (sym (joined-append (take i xs) (drop i xs)))
    ∙ ap (λ l. length (bytes_of_all l)) (take-append-drop i xs)

pub joined_both : (xs : List Text) (i : ℕ) → bytes_of_all xs ≡ bytes_of_all (take i xs) ++ bytes_of_all (drop i xs)
joined_both xs i = ap bytes_of_all (sym (take-append-drop i xs)) ∙ joined-append (take i xs) (drop i xs)

-- a byte of a piece
pub joined_byte : (xs : List Text) (i j : ℕ) → i < length xs → j < length (piece_at xs i).bytes
    → get_or (bytes_of_all xs) (length (bytes_of_all (take i xs)) + j) 0 ≡ get_or (piece_at xs i).bytes j 0
joined_byte xs i j h k = get_or-flat_map (λ (t : Text). t.bytes) xs i j no_text 0 h k

-- the pieces of a rope are UTF-8 together
pub pieces_valid : (xs : List Text) → All IsPiece xs → IsUtf8 (bytes_of_all xs)
pieces_valid xs each = joined_valid IsPiece (λ t p. p.valid) xs each

-- if there are pieces, there are bytes
pub length_joined_some : (xs : List Text) → All IsPiece xs → 0 < length xs → 0 < length (bytes_of_all xs)
length_joined_some [] each h = absurd (omega arith)
length_joined_some (x ∷ xs) each h =
    let p = (All-head IsPiece x xs each).some in
    let e : length (bytes_of_all (x ∷ xs)) ≡ length x.bytes + length (bytes_of_all xs) =
    length-append x.bytes (bytes_of_all xs) in
    omega arith

-- a rope of no bytes has no pieces
pub no_pieces : (xs : List Text) → All IsPiece xs → length (bytes_of_all xs) ≡ 0 → xs ≡ []
no_pieces [] each h = refl
no_pieces (x ∷ xs) each h = let some = length_joined_some (x ∷ xs) each (omega arith) in absurd (omega arith)
