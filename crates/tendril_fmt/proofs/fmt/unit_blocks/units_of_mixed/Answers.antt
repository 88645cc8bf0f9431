use Rattle.std.proofs.Common.{◌≡◌, ℕ, ◌+◌, ◌<◌, List, map, length, take, get_or, ap, ◌∙◌, replicate, arith, count_ones}
use Rattle.std.specs.Simd.Lanes.{zip2}
use Rattle.tendril_fmt.specs.Units.{starts, unit_of_bytes_at, unit_of_bytes}
use Rattle.tendril_fmt.proofs.Lanes.{add, lanes_own, lanes_splat, lanes_zip}
use Rattle.tendril_fmt.proofs.UnitLanes.{front, front_is, front_lanes}
use Rattle.tendril_fmt.proofs.UnitPlaces.{front_units, length-starts, ones-marks}
use Rattle.tendril_fmt.proofs.fmt.unit_blocks.units_of_mixed.Goals as goal

-- the n-th place after each
after : (places : List ℕ) (n k : ℕ) → length places ≡ 8 → n < 8 → k < 8 → get_or places k 0 < 8
    → get_or (zip2 add places (replicate 8 n)) k 0 ≡ get_or places k 0 + n
after places n k eight few lt small =
    (lanes_zip 8 add places (replicate 8 n) _ _ (lanes_own 8 places eight) (lanes_splat 8 n)).lanes k lt
    ∙ omega (arith, small)

same_unit : {a b d x y z : ℕ} → a ≡ x → b ≡ y → d ≡ z → unit_of_bytes a b d ≡ unit_of_bytes x y z
same_unit e f g = cc (e, f, g)

pub bytes_at-second-requires : goal.bytes_at-second-requires
bytes_at-second-requires c k lt =
    let small = c.places_of-places.ensures.below k lt in
    omega (arith, small, after c.places_of-places.result 1 k (omega arith) (omega arith) lt small)

pub bytes_at-third-requires : goal.bytes_at-third-requires
bytes_at-third-requires c k lt =
    let small = c.places_of-places.ensures.below k lt in
    omega (arith, small, after c.places_of-places.result 2 k (omega arith) (omega arith) lt small)

pub returns-clause-units : goal.returns-clause-units
returns-clause-units c =
    let block = c.args.block in
    let xs = front block in
    let places = c.places_of-places.result in
    let decoded = c.units_of_sequences-decoded.result in
    let lanes = front_lanes block c.fits-block.0 in
    let few = length-starts 0 xs in
    let unit : (k : ℕ) → k < length (starts 0 xs) → get_or decoded k 0
    ≡ unit_of_bytes_at block (get_or (starts 0 xs) k 0) =
    λ k within.
    let lt : k < 8 = omega (arith, within, few, lanes.long) in
    let small = c.places_of-places.ensures.below k lt in
    let second =
    c.bytes_at-second.ensures k lt
    ∙ ap (λ i. get_or block i 0) (after places 1 k (omega arith) (omega arith) lt small) in
    let third =
    c.bytes_at-third.ensures k lt
    ∙ ap (λ i. get_or block i 0) (after places 2 k (omega arith) (omega arith) lt small) in
    c.units_of_sequences-decoded.ensures k lt
    ∙ same_unit (c.bytes_at-first.ensures k lt) second third
    ∙ ap (unit_of_bytes_at block)
    (c.places_of-places.ensures.places xs k lanes.long c.mark_starts-marks.ensures within) in
    ap (λ n. take n decoded) (ap count_ones c.mark_starts-marks.ensures ∙ ones-marks 0 xs)
    ∙ front_units (unit_of_bytes_at block) decoded (starts 0 xs) (omega (arith, few, lanes.long)) unit
    ∙ ap (λ l. map (unit_of_bytes_at block) (starts 0 l)) (front_is block c.fits-block.0)
