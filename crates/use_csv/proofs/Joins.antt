-- Fields with commas between them, and one more byte, field or record.
use Rattle.std.proofs.Common.{◌≡◌, ℕ, List, [], ◌∷◌, ◌++◌, map, refl, sym, ap, ◌∙◌, append_assoc}
use Rattle.std.proofs.lemmas.List.{map-append}
use Rattle.std.specs.List.{join_with_byte}
use Rattle.tendril.specs.Texts.{Text}

-- lists joined with commas
abbrev joined : List (List ℕ) → List ℕ
joined xs = join_with_byte 44 xs

abbrev bytes_of : List Text → List (List ℕ)
bytes_of fields = map (λ f. f.bytes) fields

join_on : (xs : List (List ℕ)) (x y : List ℕ) → joined (xs ++ (x ++ y) ∷ []) ≡ joined (xs ++ x ∷ []) ++ y
join_on [] x y = refl
join_on (z ∷ []) x y = sym (append_assoc z (44 ∷ x) y)
join_on (z ∷ w ∷ xs) x y =
    ap (λ v. z ++ (44 ∷ v)) (join_on (w ∷ xs) x y)
    ∙ sym (append_assoc z (44 ∷ joined ((w ∷ xs) ++ x ∷ [])) y)

join_next : (xs : List (List ℕ)) (x : List ℕ) → joined ((xs ++ x ∷ []) ++ [] ∷ []) ≡ joined (xs ++ x ∷ []) ++ 44 ∷ []
join_next [] x = refl
join_next (z ∷ []) x = sym (append_assoc z (44 ∷ x) (44 ∷ []))
join_next (z ∷ w ∷ xs) x =
    ap (λ v. z ++ (44 ∷ v)) (join_next (w ∷ xs) x)
    ∙ sym (append_assoc z (44 ∷ joined ((w ∷ xs) ++ x ∷ [])) (44 ∷ []))

-- more bytes of the last field
pub partial_on : (fields : List Text) (last last' more : List ℕ) → last' ≡ last ++ more
    → join_with_byte 44 (map (λ (f : Text). f.bytes) fields ++ last' ∷ [])
    ≡ join_with_byte 44 (map (λ (f : Text). f.bytes) fields ++ last ∷ []) ++ more
partial_on fields last last' more is =
    ap (λ l. joined (bytes_of fields ++ l ∷ [])) is ∙ join_on (bytes_of fields) last more

-- a comma, after which a field begins
pub partial_next : (fields : List Text) (field : Text) (last : List ℕ) → last ≡ []
    → join_with_byte 44 (map (λ (f : Text). f.bytes) (fields ++ field ∷ []) ++ last ∷ [])
    ≡ join_with_byte 44 (map (λ (f : Text). f.bytes) fields ++ field.bytes ∷ []) ++ 44 ∷ []
partial_next fields field last none =
    ap (λ l. joined (bytes_of (fields ++ field ∷ []) ++ l ∷ [])) none
    ∙ ap (λ v. joined (v ++ [] ∷ [])) (map-append (λ (f : Text). f.bytes) fields (field ∷ []))
    ∙ join_next (bytes_of fields) field.bytes

-- the end of a record
pub partial_end : (fields : List Text) (field : Text)
    → join_with_byte 44 (map (λ (f : Text). f.bytes) (fields ++ field ∷ []))
    ≡ join_with_byte 44 (map (λ (f : Text). f.bytes) fields ++ field.bytes ∷ [])
partial_end fields field = ap joined (map-append (λ (f : Text). f.bytes) fields (field ∷ []))
