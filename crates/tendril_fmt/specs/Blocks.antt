-- Blocks of 16 bytes or units.
use Rattle.std.specs.Prelude.{ℕ, ◌+◌, ◌*◌, ◌<◌, ◌≤◌, ◌⊎◌, ◌==◌, List, [], ◌∷◌, ◌++◌, length, take, drop, slice_index}
use Rattle.std.specs.Prelude.{if◌then◌else◌}
use Rattle.std.specs.Int.{w64, trailing_zeros}
use Rattle.std.specs.Simd.Lanes.{zip2}

-- the place of the lowest bit that is set in a mask of n lanes, or n
abbrev pub first_set : ℕ → ℕ → ℕ
first_set n mask = if mask == 0 then n else trailing_zeros w64 mask

-- units by their low and their high bytes
abbrev pub units_of : List ℕ → List ℕ → List ℕ
units_of low high = zip2 (λ l h. l + 256 * h) low high

-- no unit of a block is a surrogate, by their high bytes
abbrev pub LackSurrogates : List ℕ → Type 0
LackSurrogates high = (k : ℕ) → k < length high → (slice_index high k < 0xD8) ⊎ (0xE0 ≤ slice_index high k)

-- the units of a block are surrogate pairs, by their high bytes
abbrev pub ArePairs : List ℕ → Type 0
ArePairs high = (k : ℕ) → 2 * k + 1 < length high
    → (0xD8 ≤ slice_index high (2 * k)) × (slice_index high (2 * k) < 0xDC)
    × (0xDC ≤ slice_index high (2 * k + 1)) × (slice_index high (2 * k + 1) < 0xE0)

-- the first bytes of each word of four bytes, as many as the list of lengths says
abbrev pub fronts : List ℕ → List ℕ → List ℕ
fronts words [] = []
fronts words (n ∷ ns) = take n (take 4 words) ++ fronts (drop 4 words) ns
