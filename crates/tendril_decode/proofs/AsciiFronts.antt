-- The first bytes of a block that are ASCII.
use Rattle.std.proofs.Common.{◌≡◌, ℕ, zero, suc, ◌+◌, ◌-◌, ◌<◌, ◌≤◌, List, [], ◌∷◌, length, take, drop, slice_index}
use Rattle.std.proofs.Common.{ap, ◌∙◌, arith}
use Rattle.std.specs.Prelude.{slice_range}
use Rattle.std.specs.List.{AllByRecursion}
use Rattle.std.proofs.lemmas.List.{take-take}

-- the first bytes of a block that is read at an offset
pub front_of : (input block : List ℕ) (from n : ℕ) → n ≤ 16 → block ≡ slice_range input from (from + 16)
    → take n block ≡ slice_range input from (from + n)
front_of input block from n few is =
    let one : n ≤ from + 16 - from = omega arith in
    let same : n ≡ from + n - from = omega arith in
    ap (take n) is ∙ take-take n (from + 16 - from) (drop from input) one ∙ ap (λ k. take k (drop from input)) same

-- the first n bytes are ASCII, if each is
pub ascii_front : (xs : List ℕ) (n : ℕ) → n ≤ length xs → ((k : ℕ) → k < n → slice_index xs k < 0x80)
    → AllByRecursion (λ b. b < 0x80) (take n xs)
ascii_front xs zero le f = tt
ascii_front [] (suc n) le f = absurd (omega arith)
ascii_front (x ∷ xs) (suc n) le f =
    (f 0 (omega arith), ascii_front xs n (omega arith) (λ k lt. f (suc k) (omega arith)))
