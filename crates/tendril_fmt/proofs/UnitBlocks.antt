-- Blocks of characters of equally many bytes, by their lanes.
use Rattle.std.proofs.Common.{◌≡◌, ℕ, ◌+◌, ◌*◌, ◌/◌, ◌%◌, ◌<◌, true, false, eqb, ltb, cond, List, [], ◌∷◌, ◌++◌}
use Rattle.std.proofs.Common.{length, map, get_or, replicate, refl, sym, subst, ◌∙◌, arith, eq-eqb, ne_eqb}
use Rattle.std.specs.List.{range_with_len}
use Rattle.std.specs.Simd.Lanes.{zip2, top, pick_l}
use Rattle.std.proofs.lemmas.Bool.{cond-true, cond-false}
use Rattle.std.proofs.lemmas.Bool.Decides.{nat_tests}
use Rattle.tendril_fmt.specs.Units.{LeadsTwo, LeadsThree, code_of_four}
use Rattle.tendril_fmt.proofs.Lanes.{IsLanes, div, other, lanes_own, lanes_splat, lanes_zip, lanes_list, lanes_map}
use Rattle.tendril_fmt.proofs.Lanes.{same_is, is_same}

-- The bytes at the places where characters of two bytes begin, and those of three.
abbrev pub twos : List ℕ → List ℕ
twos block = pick_l 0 (block ++ block) (0 ∷ 2 ∷ 4 ∷ 6 ∷ 8 ∷ 10 ∷ 12 ∷ 14 ∷ [])

abbrev pub threes : List ℕ → List ℕ
threes block = pick_l 0 (block ++ block) (0 ∷ 3 ∷ 6 ∷ 9 ∷ 12 ∷ 12 ∷ 12 ∷ 12 ∷ [])

abbrev three_at : (ℕ → ℕ) → ℕ → ℕ
three_at f k = cond (ltb k 5) (f (3 * k)) (f 12)

module _ (block : List ℕ) (long : length block ≡ 16) where
  abbrev byte : ℕ → ℕ
  byte k = get_or block k 0

  own : block ≡ map byte (range_with_len 0 16)
  own = lanes_list 16 block byte byte (lanes_own 16 block long) (λ k lt. refl)

  pub two_lanes : IsLanes 8 (zip2 other (zip2 div (twos block) (replicate 8 32)) (replicate 8 6))
      (λ k. other (div (byte (2 * k)) 32) 6)
  two_lanes =
      lanes_zip 8 other _ _ _ _
      (lanes_zip 8 div _ _ _ _
      (subst (λ (l : List ℕ). IsLanes 8 (twos l) (λ k. byte (2 * k))) (sym own) (lanes_map 8 (λ k. byte (2 * k))))
      (lanes_splat 8 32))
      (lanes_splat 8 6)

  pub three_lanes : IsLanes 8 (zip2 other (zip2 div (threes block) (replicate 8 16)) (replicate 8 14))
      (λ k. other (div (three_at byte k) 16) 14)
  three_lanes =
      lanes_zip 8 other _ _ _ _
      (lanes_zip 8 div _ _ _ _
      (subst (λ (l : List ℕ). IsLanes 8 (threes l) (three_at byte)) (sym own) (lanes_map 8 (three_at byte)))
      (lanes_splat 8 16))
      (lanes_splat 8 14)

-- a clear lane of these is that of a first byte
pub leads_two : (b : ℕ) → top 7 (other (b / 32) 6) ≡ false → LeadsTwo b
leads_two b e = let is = same_is (b / 32) 6 e in (omega (arith, is), omega (arith, is))

pub two_clear : (b : ℕ) → LeadsTwo b → top 7 (other (b / 32) 6) ≡ false
two_clear b h = is_same (b / 32) 6 (omega (arith, h.0, h.1))

pub leads_three : (k a b : ℕ) → k < 5 → top 7 (other (cond (ltb k 5) a b / 16) 14) ≡ false → LeadsThree a
leads_three k a b lt e =
    let few : ltb k 5 ≡ true = grind (arith, nat_tests) in
    let is = same_is (cond (ltb k 5) a b / 16) 14 e in
    let same = cond-true (ltb k 5) a b few in
    (omega (arith, is, same), omega (arith, is, same))

pub three_clear : (k a b : ℕ) → k < 5 → LeadsThree a → top 7 (other (cond (ltb k 5) a b / 16) 14) ≡ false
three_clear k a b lt h =
    let few : ltb k 5 ≡ true = grind (arith, nat_tests) in
    is_same (cond (ltb k 5) a b / 16) 14 (omega (arith, h.0, h.1, cond-true (ltb k 5) a b few))

-- The units of four pairs.
abbrev pub lead_unit : ℕ → ℕ → ℕ → ℕ
lead_unit a b c = (((a % 8 * 256 % 65536 + b % 64 * 4 % 65536) % 65536 + c % 64 / 16) % 65536 + 55232) % 65536

abbrev pub trail_unit : ℕ → ℕ → ℕ
trail_unit c d = ((c % 64 % 16 * 64 % 65536 + d % 64) % 65536 + 56320) % 65536

abbrev unit_of : (ℕ → ℕ) → ℕ → ℕ
unit_of f j =
    cond (eqb (j % 2) 0) (lead_unit (f (2 * j)) (f (2 * j + 1)) (f (2 * j + 2)))
    (trail_unit (f (2 * j)) (f (2 * j + 1)))

abbrev of_bytes : (ℕ → ℕ) → List ℕ
of_bytes f =
    lead_unit (f 0) (f 1) (f 2) ∷ trail_unit (f 2) (f 3) ∷ lead_unit (f 4) (f 5) (f 6) ∷ trail_unit (f 6) (f 7)
    ∷ lead_unit (f 8) (f 9) (f 10) ∷ trail_unit (f 10) (f 11) ∷ lead_unit (f 12) (f 13) (f 14)
    ∷ trail_unit (f 14) (f 15) ∷ []

abbrev pub units_of_pairs : List ℕ → List ℕ
units_of_pairs block = of_bytes (λ k. get_or (block ++ block) k 0)

module _ (block : List ℕ) (long : length block ≡ 16) where
  pair_lanes : IsLanes 8 (units_of_pairs block) (unit_of (byte block long))
  pair_lanes =
      subst (λ (l : List ℕ). IsLanes 8 (units_of_pairs l) (unit_of (byte block long))) (sym (own block long))
      (lanes_map 8 (unit_of (byte block long)))

  pub lead_lane : (k : ℕ) → k < 4 → get_or (units_of_pairs block) (2 * k) 0
      ≡ lead_unit (get_or block (4 * k) 0) (get_or block (4 * k + 1) 0) (get_or block (4 * k + 2) 0)
  lead_lane k lt =
      let a : 2 * (2 * k) ≡ 4 * k = omega arith in
      let b : 2 * (2 * k) + 1 ≡ 4 * k + 1 = omega arith in
      let c : 2 * (2 * k) + 2 ≡ 4 * k + 2 = omega arith in
      pair_lanes.lanes (2 * k) (omega arith) ∙ cond-true _ _ _ (eq-eqb (2 * k % 2) 0 (omega arith)) ∙ cc (a, b, c)

  pub trail_lane : (k : ℕ) → k < 4 → get_or (units_of_pairs block) (2 * k + 1) 0
      ≡ trail_unit (get_or block (4 * k + 2) 0) (get_or block (4 * k + 3) 0)
  trail_lane k lt =
      let a : 2 * (2 * k + 1) ≡ 4 * k + 2 = omega arith in
      let b : 2 * (2 * k + 1) + 1 ≡ 4 * k + 3 = omega arith in
      pair_lanes.lanes (2 * k + 1) (omega arith) ∙ cond-false _ _ _ (ne_eqb ((2 * k + 1) % 2) 0 (λ e. omega arith))
      ∙ cc (a, b)

pub lead_is : (a b c d : ℕ) → lead_unit a b c + 0x40 ≡ 0xD800 + code_of_four a b c d / 0x400
lead_is a b c d = omega arith

pub trail_is : (a b c d : ℕ) → trail_unit c d ≡ 0xDC00 + code_of_four a b c d % 0x400
trail_is a b c d = omega arith
