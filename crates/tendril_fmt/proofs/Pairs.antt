-- The WTF-8 of a block of surrogate pairs.
use Rattle.std.proofs.Common.{◌≡◌, ℕ, zero, suc, ◌+◌, ◌*◌, ◌/◌, ◌%◌, ◌<◌, ◌≤◌, true, List, [], ◌∷◌, ◌++◌, map, refl}
use Rattle.std.proofs.Common.{sym, ap, ap₂, ◌∙◌, arith, encode_utf8}
use Rattle.std.specs.Char.Utf16.{surrogate_pair_char}
use Rattle.std.specs.List.{range_with_len, flat_map}
use Rattle.std.specs.Simd.Lanes.{pick_l}
use Rattle.std.proofs.lemmas.Bool.Decides.{nat_tests}
use Rattle.tendril_fmt.specs.Wtf8.{wtf8}
use Rattle.tendril_fmt.specs.Proved.Encodings.{encode_utf8_4}
use Rattle.tendril_fmt.specs.Proved.Units.{pairs}
use Rattle.tendril_fmt.proofs.UnitSplits.{SplitsUnits-pair}
use Rattle.tendril_fmt.proofs.Words.{in_pairs}

-- The bytes of a pair, by the low and the high bytes of its units.
abbrev pub lead_bits : ℕ → ℕ
lead_bits l = (l / 4 + 16) % 256

abbrev pub first_of_pair : ℕ → ℕ → ℕ
first_of_pair l h = ((lead_bits l / 64 + h % 4) % 256 + 240) % 256

abbrev pub second_of_pair : ℕ → ℕ
second_of_pair l = (lead_bits l % 64 + 128) % 256

-- by the trail's bytes, and the low byte of its lead
abbrev pub third_of_pair : ℕ → ℕ → ℕ → ℕ
third_of_pair l h m = (((m % 4 * 16 % 256 + h % 4 * 4 % 256) % 256 + l / 64) % 256 + 128) % 256

abbrev pub fourth_of_pair : ℕ → ℕ
fourth_of_pair l = (l % 64 + 128) % 256

-- a unit of each kind, by its two bytes
pub record IsLead (l h : ℕ) : Type 0 where
  pub low : l < 256
  pub from : 0xD8 ≤ h
  pub below : h < 0xDC

pub record IsTrail (l h : ℕ) : Type 0 where
  pub low : l < 256
  pub from : 0xDC ≤ h
  pub below : h < 0xE0

-- a lead and a trail are a pair, whose character has these four bytes
meet : (l h m n : ℕ) → IsLead l h → IsTrail m n → pairs (l + 256 * h) (m + 256 * n) ≡ true
meet l h m n p q =
    let a : 0xD800 ≤ l + 256 * h = omega (arith, p.from) in
    let b : l + 256 * h < 0xDC00 = omega (arith, p.low, p.below) in
    let c : 0xDC00 ≤ m + 256 * n = omega (arith, q.from) in
    let d : m + 256 * n < 0xE000 = omega (arith, q.low, q.below) in
    grind (arith, nat_tests)

four_bytes : (l h m n : ℕ) → IsLead l h → IsTrail m n
    → encode_utf8 (surrogate_pair_char (l + 256 * h) (m + 256 * n))
    ≡ first_of_pair l h ∷ second_of_pair l ∷ third_of_pair m n l ∷ fourth_of_pair m ∷ []
four_bytes l h m n p q =
    let c = surrogate_pair_char (l + 256 * h) (m + 256 * n) in
    let is : c + 0xD800 * 0x400 + 0xDC00 ≡ 0x1_0000 + (l + 256 * h) * 0x400 + (m + 256 * n) =
    omega (arith, p.from, q.from) in
    let high : 0x1_0000 ≤ c = omega (arith, p.from, q.from) in
    let first : 240 + c / 262144 ≡ first_of_pair l h =
    omega (arith, is, p.low, p.from, p.below, q.low, q.from, q.below) in
    let second : 128 + c / 4096 % 64 ≡ second_of_pair l =
    omega (arith, is, p.low, p.from, p.below, q.low, q.from, q.below) in
    let third : 128 + c / 64 % 64 ≡ third_of_pair m n l =
    omega (arith, is, p.low, p.from, p.below, q.low, q.from, q.below) in
    let fourth : 128 + c % 64 ≡ fourth_of_pair m = omega (arith, is, p.low, p.from, p.below, q.low, q.from, q.below) in
    encode_utf8_4 c high ∙ ap₂ (λ x y. x ∷ y ∷ (128 + c / 64 % 64) ∷ (128 + c % 64) ∷ []) first second
    ∙ ap₂ (λ x y. first_of_pair l h ∷ second_of_pair l ∷ x ∷ y ∷ []) third fourth

-- Pairs, one after another: the k-th has the bytes l k and h k of its lead, and m k and n k of its trail.
module _ (l h m n : ℕ → ℕ) where
  abbrev units_from : ℕ → ℕ → List ℕ
  units_from start count =
      flat_map (λ k. (l k + 256 * h k) ∷ (m k + 256 * n k) ∷ []) (range_with_len start count)

  abbrev bytes_from : ℕ → ℕ → List ℕ
  bytes_from start count =
      flat_map
      (λ k. first_of_pair (l k) (h k) ∷ second_of_pair (l k) ∷ third_of_pair (m k) (n k) (l k)
      ∷ fourth_of_pair (m k) ∷ [])
      (range_with_len start count)

  pairs_from : (start count : ℕ) (rest : List ℕ)
      → ((k : ℕ) → k < start + count → IsLead (l k) (h k) × IsTrail (m k) (n k))
      → wtf8 (units_from start count ++ rest) ≡ bytes_from start count ++ wtf8 rest
  pairs_from start zero rest are = refl
  pairs_from start (suc count) rest are =
      let here = are start (omega arith) in
      (SplitsUnits-pair _ _ (units_from (start + 1) count ++ rest)
      (meet (l start) (h start) (m start) (n start) here.0 here.1)).spelt
      ∙ ap₂ (λ x y. x ++ y) (four_bytes (l start) (h start) (m start) (n start) here.0 here.1)
      (pairs_from (start + 1) count rest (λ k lt. are k (omega arith)))

-- The bytes of a block, from the vectors of the first, second, third and fourth bytes.
abbrev alternately : List ℕ
alternately = 0 ∷ 17 ∷ 2 ∷ 19 ∷ 4 ∷ 21 ∷ 6 ∷ 23 ∷ 8 ∷ 25 ∷ 10 ∷ 27 ∷ 12 ∷ 29 ∷ 14 ∷ 31 ∷ []

abbrev pairs_shuffled : List ℕ → List ℕ → List ℕ → List ℕ → List ℕ
pairs_shuffled first second third fourth =
    pick_l 0 (pick_l 0 (first ++ third) alternately ++ pick_l 0 (second ++ fourth) alternately) in_pairs

pairs_shuffled_is : (f g h e : ℕ → ℕ)
    → pairs_shuffled (map f (range_with_len 0 16)) (map g (range_with_len 0 16)) (map h (range_with_len 0 16))
    (map e (range_with_len 0 16))
    ≡ flat_map (λ k. f (2 * k) ∷ g (2 * k) ∷ h (2 * k + 1) ∷ e (2 * k + 1) ∷ []) (range_with_len 0 8)
pairs_shuffled_is f g h e = refl

units_are : (u : ℕ → ℕ)
    → map u (range_with_len 0 16) ≡ flat_map (λ k. u (2 * k) ∷ u (2 * k + 1) ∷ []) (range_with_len 0 8)
units_are u = refl

-- the WTF-8 of a block of pairs, by the lists of their bytes
pub pairs_are : (l h : ℕ → ℕ) (units first second third fourth rest : List ℕ)
    → ((k : ℕ) → k < 8 → IsLead (l (2 * k)) (h (2 * k)) × IsTrail (l (2 * k + 1)) (h (2 * k + 1)))
    → units ≡ map (λ k. l k + 256 * h k) (range_with_len 0 16)
    → first ≡ map (λ k. first_of_pair (l k) (h k)) (range_with_len 0 16)
    → second ≡ map (λ k. second_of_pair (l k)) (range_with_len 0 16)
    → third ≡ map (λ k. third_of_pair (l k) (h k) (l (k / 2 * 2))) (range_with_len 0 16)
    → fourth ≡ map (λ k. fourth_of_pair (l k)) (range_with_len 0 16)
    → wtf8 (units ++ rest) ≡ pairs_shuffled first second third fourth ++ wtf8 rest
pairs_are l h units first second third fourth rest are us fs ss ts ls =
    let is = range_with_len 0 16 in
    let f : ℕ → ℕ = λ k. first_of_pair (l k) (h k) in
    let g : ℕ → ℕ = λ k. second_of_pair (l k) in
    let e : ℕ → ℕ = λ k. third_of_pair (l k) (h k) (l (k / 2 * 2)) in
    let d : ℕ → ℕ = λ k. fourth_of_pair (l k) in
    ap (λ x. wtf8 (x ++ rest)) (us ∙ units_are (λ k. l k + 256 * h k))
    ∙ pairs_from (λ k. l (2 * k)) (λ k. h (2 * k)) (λ k. l (2 * k + 1)) (λ k. h (2 * k + 1)) 0 8 rest
    (λ k lt. are k (omega arith))
    ∙ sym (ap (λ x. x ++ wtf8 rest)
    (ap₂ (λ x y. pairs_shuffled x y third fourth) fs ss ∙ ap₂ (λ x y. pairs_shuffled (map f is) (map g is) x y) ts ls
    ∙ pairs_shuffled_is f g e d))
