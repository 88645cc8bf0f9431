-- The low and the high bytes of a block of units.
use Rattle.std.proofs.Common.{◌≡◌, ℕ, ◌+◌, ◌*◌, ◌<◌, ◌≤◌, Bool, true, false, not, List, [], ◌∷◌, length, map, get_or}
use Rattle.std.proofs.Common.{slice_index, refl, ap, ◌∙◌, arith, zero-add}
use Rattle.std.specs.List.{range_with_len}
use Rattle.std.specs.Simd.Lanes.{chunk}
use Rattle.std.proofs.lemmas.List.FromFn.{fill_by_all, get_or-map-range_with_len}
use Rattle.std.proofs.lemmas.Simd.{get_or-chunk}
use Rattle.tendril_fmt.specs.Blocks.{units_of}
use Rattle.tendril_fmt.proofs.Lanes.{IsLanes, lanes_zip}
use Rattle.tendril_decode.specs.Utf16Blocks.{unit_at, first_units, byte_at}

abbrev pub evens : List ℕ
evens = 0 ∷ 2 ∷ 4 ∷ 6 ∷ 8 ∷ 10 ∷ 12 ∷ 14 ∷ 16 ∷ 18 ∷ 20 ∷ 22 ∷ 24 ∷ 26 ∷ 28 ∷ 30 ∷ []

abbrev pub odds : List ℕ
odds = 1 ∷ 3 ∷ 5 ∷ 7 ∷ 9 ∷ 11 ∷ 13 ∷ 15 ∷ 17 ∷ 19 ∷ 21 ∷ 23 ∷ 25 ∷ 27 ∷ 29 ∷ 31 ∷ []

-- The bytes of a block in the places that a function of the lane names.
pub picked : (block : List ℕ) (n k : ℕ) (f : ℕ → ℕ) → 32 ≤ length block → k < n → f k < 32
    → get_or (map (λ j. get_or (chunk 0 32 block) (f j) 0) (range_with_len 0 n)) k 0 ≡ slice_index block (f k)
picked block n k f room lt within =
    get_or-map-range_with_len (λ j. get_or (chunk 0 32 block) (f j) 0) 0 n k k 0 lt (zero-add k)
    ∙ get_or-chunk 0 32 block (f k) 0 within ∙ ap (slice_index block) (zero-add (f k))

unit_is : (big : Bool) (block : List ℕ) (k : ℕ) → byte_at big block k + 256 * byte_at (not big) block k
    ≡ unit_at big block k
unit_is true block k = omega arith
unit_is false block k = refl

-- units by their low and their high bytes
pub units_are : (big : Bool) (block low high : List ℕ) (n : ℕ) → length low ≡ n → length high ≡ n
    → ((k : ℕ) → k < n → slice_index low k ≡ byte_at big block k)
    → ((k : ℕ) → k < n → slice_index high k ≡ byte_at (not big) block k) → units_of low high ≡ first_units big block n
units_are big block low high n long also f g =
    let p : IsLanes n low (byte_at big block) = record { long = long; lanes = f } in
    let q : IsLanes n high (byte_at (not big) block) = record { long = also; lanes = g } in
    let r = lanes_zip n (λ l h. l + 256 * h) low high (byte_at big block) (byte_at (not big) block) p q in
    fill_by_all (unit_at big block) (units_of low high) n 0 r.long (λ k lt. r.lanes k lt ∙ unit_is big block k)
