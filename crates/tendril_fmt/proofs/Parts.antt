-- Prefixes, suffixes and slices of a list, by `take` and `drop`.
use Rattle.std.proofs.Common.{◌≡◌, ℕ, List, [], ◌∷◌, ◌++◌, take, drop, refl, sym, ap, ◌∙◌, take-append-drop}
use Rattle.tendril_fmt.specs.Parts.{IsFrontOf, IsEndOf, IsSliceOf}

-- the first n of a list are a prefix of it
pub IsFrontOf-take : (xs : List ℕ) (n : ℕ) → IsFrontOf (take n xs) xs
IsFrontOf-take xs n = (drop n xs, sym (take-append-drop n xs))

-- all but the first n are a suffix of it
pub IsEndOf-drop : (xs : List ℕ) (n : ℕ) → IsEndOf (drop n xs) xs
IsEndOf-drop xs n = (take n xs, sym (take-append-drop n xs))

-- n from an index on are a slice of it
pub IsSliceOf-take_drop : (xs : List ℕ) (place n : ℕ) → IsSliceOf (take n (drop place xs)) xs
IsSliceOf-take_drop xs place n = (
  take place xs,
  drop n (drop place xs),
  sym (take-append-drop place xs) ∙ ap (λ l. take place xs ++ l) (sym (take-append-drop n (drop place xs))),
)

-- a list that isn't empty, split before its last element
pub last_of : (c : ℕ) (cs : List ℕ) → (front : List ℕ) × (d : ℕ) × (c ∷ cs ≡ front ++ d ∷ [])
last_of c [] = ([], c, refl)
last_of c (d ∷ cs) = let k = last_of d cs in (c ∷ k.0, k.1, ap (λ l. c ∷ l) k.2)
