-- The lanes of the bytes at places of a block.
use Rattle.std.proofs.Common.{◌≡◌, ℕ, ◌+◌, ◌*◌, ◌%◌, ◌<◌, List, [], ◌∷◌, ◌++◌, length, map, get_or, refl, sym}
use Rattle.std.proofs.Common.{ap, subst, ◌∙◌, arith, w8, Bool, true, false, cond, ltb, take}
use Rattle.std.specs.Simd.Lanes.{top}
use Rattle.tendril_fmt.specs.Units.{code_of_two, code_of_three, unit_of_bytes}
use Rattle.std.specs.List.{range_with_len}
use Rattle.std.specs.Simd.Lanes.{pick_l}
use Rattle.std.proofs.lemmas.Simd.{Each1-from_get_or, SwzOk, SwzOk-from_below, get_or-swz_l_below, length-swz_l, swz_l}
use Rattle.tendril_fmt.proofs.Lanes.{IsLanes, lanes_own, lanes_list, lanes_map}

abbrev pub front : List ℕ → List ℕ
front xs = pick_l 0 (xs ++ xs) (0 ∷ 1 ∷ 2 ∷ 3 ∷ 4 ∷ 5 ∷ 6 ∷ 7 ∷ [])

abbrev pub back : List ℕ → List ℕ
back xs = pick_l 0 (xs ++ xs) (8 ∷ 9 ∷ 10 ∷ 11 ∷ 12 ∷ 13 ∷ 14 ∷ 15 ∷ [])

abbrev pub twice : List ℕ → List ℕ
twice xs =
    pick_l 0 (xs ++ xs)
    (0 ∷ 1 ∷ 2 ∷ 3 ∷ 4 ∷ 5 ∷ 6 ∷ 7 ∷ 0 ∷ 1 ∷ 2 ∷ 3 ∷ 4 ∷ 5 ∷ 6 ∷ 7 ∷ [])

own : (n : ℕ) (xs : List ℕ) → length xs ≡ n → xs ≡ map (λ k. get_or xs k 0) (range_with_len 0 n)
own n xs long = lanes_list n xs (λ k. get_or xs k 0) (λ k. get_or xs k 0) (lanes_own n xs long) (λ k lt. refl)

pub front_lanes : (xs : List ℕ) → length xs ≡ 16 → IsLanes 8 (front xs) (λ k. get_or xs k 0)
front_lanes xs long = let f = λ (k : ℕ). get_or xs k 0 in
    subst (λ (l : List ℕ). IsLanes 8 (front l) f) (sym (own 16 xs long)) (lanes_map 8 f)

pub front_is : (xs : List ℕ) → length xs ≡ 16 → front xs ≡ take 8 xs
front_is xs long = subst (λ (l : List ℕ). front l ≡ take 8 l) (sym (own 16 xs long)) refl

pub back_lanes : (xs : List ℕ) → length xs ≡ 16 → IsLanes 8 (back xs) (λ k. get_or xs (8 + k) 0)
back_lanes xs long = let f = λ (k : ℕ). get_or xs (8 + k) 0 in
    subst (λ (l : List ℕ). IsLanes 8 (back l) f) (sym (own 16 xs long)) (lanes_map 8 f)

twice_lanes : (xs : List ℕ) → length xs ≡ 8 → IsLanes 16 (twice xs) (λ k. get_or xs (k % 8) 0)
twice_lanes xs long = let f = λ (k : ℕ). get_or xs (k % 8) 0 in
    subst (λ (l : List ℕ). IsLanes 16 (twice l) f) (sym (own 8 xs long)) (lanes_map 16 f)

module _ (block ps : List ℕ) (long : length block ≡ 16) (eight : length ps ≡ 8)
    (small : (k : ℕ) → k < 8 → get_or ps k 0 < 16) where
  below : (k : ℕ) → k < 16 → get_or (twice ps) k 0 < 16
  below k lt = omega (arith, (twice_lanes ps eight).lanes k lt, small (k % 8) (omega arith))

  pub places_fit : SwzOk w8 16 16 0 (twice ps)
  places_fit = SwzOk-from_below w8 16 1 16 0 (twice ps) refl (omega (arith, (twice_lanes ps eight).long))
      (Each1-from_get_or (λ (j : ℕ). j < 16) (twice ps) 0
      (λ k lt. below k (omega (arith, (twice_lanes ps eight).long))))

  pub bytes_found : (k : ℕ) → k < 8
      → get_or (front (swz_l w8 16 block 0 (twice ps))) k 0 ≡ get_or block (get_or ps k 0) 0
  bytes_found k lt =
      let t = twice_lanes ps eight in
      let sixteen : length (swz_l w8 16 block 0 (twice ps)) ≡ 16 = length-swz_l w8 16 block 0 (twice ps) ∙ t.long in
      let here : get_or (twice ps) k 0 ≡ get_or ps k 0 =
      t.lanes k (omega arith) ∙ ap (λ i. get_or ps i 0) (omega arith) in
      (front_lanes (swz_l w8 16 block 0 (twice ps)) sixteen).lanes k lt
      ∙ get_or-swz_l_below w8 16 block 0 (twice ps) k (omega (arith, t.long)) (below k (omega arith))
      ∙ ap (λ i. get_or block i 0) (omega (arith, here))

-- What vectors of units do to two lanes. A comparison gives a mask.
abbrev pub add16 : ℕ → ℕ → ℕ
add16 a b = (a + b) % 65536

abbrev pub mul16 : ℕ → ℕ → ℕ
mul16 a b = a * b % 65536

abbrev pub less16 : ℕ → ℕ → ℕ
less16 a b = cond (ltb a b) 65535 0

top_mask16 : (t : Bool) → top 15 (cond t 65535 0) ≡ t
top_mask16 true = refl
top_mask16 false = refl

-- the unit of a lane, by the lanes of the bytes
pub unit_is : (a b c : ℕ)
    → cond (top 15 (less16 a 128)) a
    (cond (top 15 (less16 a 224)) (add16 (mul16 (a % 32) 64) (b % 64))
    (add16 (add16 (mul16 (a % 16) 4096) (mul16 (b % 64) 64)) (c % 64)))
    ≡ unit_of_bytes a b c
unit_is a b c =
    let one = top_mask16 (ltb a 128) in
    let two = top_mask16 (ltb a 224) in
    let of_two : add16 (mul16 (a % 32) 64) (b % 64) ≡ code_of_two a b = omega arith in
    let of_three : add16 (add16 (mul16 (a % 16) 4096) (mul16 (b % 64) 64)) (c % 64) ≡ code_of_three a b c =
    omega arith in
    cc (one, two, of_two, of_three)
