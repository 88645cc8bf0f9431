-- The bytes of texts, one after another.
use Rattle.std.proofs.Common.{◌≡◌, ℕ, ◌+◌, ◌<◌, List, [], ◌∷◌, ◌++◌, length, get_or, take, refl, sym, ap, ◌∙◌, arith}
use Rattle.std.proofs.Common.{append-nil}
use Rattle.std.specs.Prelude.{All, IsUtf8}
use Rattle.std.proofs.lemmas.List.{nil_from_length, take_more}
use Rattle.std.proofs.lemmas.List.Concat.{flat_map-append}
use Rattle.std.proofs.lemmas.List.Elements.{All-head, All-tail}
use Rattle.std.proofs.lemmas.Str.{IsUtf8-append, IsUtf8-nil}
use Rattle.tendril_storage.specs.Texts.{Text}
use Rattle.tendril_text.specs.TextLists.{bytes_of_all, listed_unless_empty, unless_empty}

pub joined-append : (xs ys : List Text) → bytes_of_all (xs ++ ys) ≡ bytes_of_all xs ++ bytes_of_all ys
joined-append xs ys = flat_map-append (λ t. t.bytes) xs ys

pub joined_push : (xs : List Text) (t : Text) → bytes_of_all (xs ++ t ∷ []) ≡ bytes_of_all xs ++ t.bytes
joined_push xs t = joined-append xs (t ∷ []) ∙ ap (λ l. bytes_of_all xs ++ l) (append-nil t.bytes)

-- the bytes of one more text
pub joined_more : (xs : List Text) (i : ℕ) (t : Text) → i < length xs → t ≡ get_or xs i t
    → bytes_of_all (take (i + 1) xs) ≡ bytes_of_all (take i xs) ++ t.bytes
joined_more xs i t inside is =
    ap bytes_of_all (take_more xs i t inside ∙ ap (λ x. take i xs ++ x ∷ []) (sym is)) ∙ joined_push (take i xs) t

pub joined_valid : (P : Text → Type 0) → ((t : Text) → P t → IsUtf8 t.bytes) → (xs : List Text) → All P xs
    → IsUtf8 (bytes_of_all xs)
joined_valid P valid [] each = IsUtf8-nil
joined_valid P valid (t ∷ xs) each = IsUtf8-append t.bytes (bytes_of_all xs) (valid t (All-head P t xs each))
    (joined_valid P valid xs (All-tail P t xs each))

-- if there are bytes, there are texts
pub some_texts : (xs : List Text) (at : ℕ) → at < length (bytes_of_all xs) → 0 < length xs
some_texts [] at h = absurd (omega arith)
some_texts (x ∷ xs) at h = omega arith

-- the list of a text, unless it is empty

pub unless_empty_none : (t : Text) → length t.bytes ≡ 0 → unless_empty t ≡ []
unless_empty_none t h = ap (λ l. listed_unless_empty l t) (nil_from_length t.bytes h)

listed_some : (b : List ℕ) (t : Text) → 0 < length b → listed_unless_empty b t ≡ t ∷ []
listed_some [] t h = absurd (omega arith)
listed_some (x ∷ xs) t h = refl

pub unless_empty_some : (t : Text) → 0 < length t.bytes → unless_empty t ≡ t ∷ []
unless_empty_some t h = listed_some t.bytes t h

listed_bytes : (b : List ℕ) (t : Text) → t.bytes ≡ b → bytes_of_all (listed_unless_empty b t) ≡ t.bytes
listed_bytes [] t e = sym e
listed_bytes (x ∷ xs) t e = append-nil t.bytes

pub unless_empty_bytes : (t : Text) → bytes_of_all (unless_empty t) ≡ t.bytes
unless_empty_bytes t = listed_bytes t.bytes t refl
