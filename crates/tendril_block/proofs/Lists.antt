-- A list whose first elements are overwritten.
use Rattle.std.proofs.Common.{◌≡◌, ℕ, zero, suc, ◌≤◌, List, [], ◌∷◌, ◌++◌, length, take, drop, length-take-le, refl}
use Rattle.std.proofs.Common.{sym, ◌∙◌, ap, arith}
use Rattle.std.proofs.lemmas.List.{take-take}
use Rattle.std.specs.List.{refill}

front_written : (n : ℕ) (w xs : List ℕ) → take n (w ++ drop (length w) xs) ≡ take n (w ++ drop (length w) (take n xs))
front_written zero w xs = refl
front_written (suc n) [] xs = sym (take-take (suc n) (suc n) xs (omega arith))
front_written (suc n) (x ∷ w) [] = refl
front_written (suc n) (x ∷ w) (y ∷ xs) = ap (λ (l : List ℕ). x ∷ l) (front_written n w xs)

-- the first m of the overwritten bytes are the first m bytes, overwritten
pub take-refill : (m : ℕ) (xs w : List ℕ) → m ≤ length xs → take m (refill (length xs) xs w)
    ≡ refill (length (take m xs)) (take m xs) w
take-refill m xs w le =
    take-take m (length xs) (w ++ drop (length w) xs) le ∙ front_written m w xs
    ∙ ap (λ (k : ℕ). take k (w ++ drop (length w) (take m xs))) (sym (length-take-le m xs le))
