-- The lanes of vectors of bytes.
use Rattle.std.proofs.Common.{◌≡◌, ℕ, ◌+◌, ◌*◌, ◌/◌, ◌%◌, ◌^◌, ◌<◌, ◌≤◌, Bool, true, false, not, leb, ltb}
use Rattle.std.proofs.Common.{eqb, cond, List, [], ◌∷◌, suc, length, map, get_or, slice_index, replicate, refl}
use Rattle.std.proofs.Common.{sym, ap, ap₂, subst, ◌∙◌, arith, eq-eqb, bit_or, Fits, w8}
use Rattle.std.specs.List.{prefix_len, range_with_len}
use Rattle.std.specs.Simd.Lanes.{zip2, sel_l, mask_l, top, Each1, Each2}
use Rattle.std.proofs.lemmas.Bool.{not-true, not-false}
use Rattle.std.proofs.lemmas.Bool.Decides.{nat_tests}
use Rattle.std.proofs.lemmas.List.{length-map, get_or-map}
use Rattle.std.proofs.lemmas.List.Sums.{prefix_len-le-length, prefix_len_passes, prefix_len_stops}
use Rattle.std.proofs.lemmas.List.FromFn.{fill_by_all, get_or-map-range_with_len, length-map-range_with_len}
use Rattle.std.proofs.lemmas.Simd.{length-sel_l, get_or-sel_l}
use Rattle.std.proofs.lemmas.Simd.{length-zip2, get_or-zip2, length-replicate, get_or-replicate, mask_l-mod}
use Rattle.std.proofs.lemmas.Simd.{first_set_mask_l, Each1-get_or, Each1-all, Each2-splat}
use Rattle.tendril_fmt.specs.Blocks.{first_set}

-- What vectors of bytes do to two lanes. A comparison gives a mask.
abbrev pub add : ℕ → ℕ → ℕ
add a b = (a + b) % 256

abbrev pub mul : ℕ → ℕ → ℕ
mul a b = a * b % 256

abbrev pub div : ℕ → ℕ → ℕ
div a b = a / b

abbrev pub rem : ℕ → ℕ → ℕ
rem a b = a % b

abbrev pub same : ℕ → ℕ → ℕ
same a b = cond (eqb a b) 255 0

abbrev pub other : ℕ → ℕ → ℕ
other a b = cond (not (eqb a b)) 255 0

abbrev pub less : ℕ → ℕ → ℕ
less a b = cond (ltb a b) 255 0

abbrev pub at_most : ℕ → ℕ → ℕ
at_most a b = cond (leb a b) 255 0

-- A list of n lanes, each by its place.
pub record IsLanes (n : ℕ) (xs : List ℕ) (f : ℕ → ℕ) : Type 0 where
  pub long : length xs ≡ n
  pub lanes : (k : ℕ) → k < n → get_or xs k 0 ≡ f k

pub lanes_own : (n : ℕ) (xs : List ℕ) → length xs ≡ n → IsLanes n xs (λ k. get_or xs k 0)
lanes_own n xs long = record { long = long; lanes = λ k lt. refl }

pub lanes_splat : (n a : ℕ) → IsLanes n (replicate n a) (λ k. a)
lanes_splat n a = record { long = length-replicate n a; lanes = λ k lt. get_or-replicate n k a 0 lt }

pub lanes_zip : (n : ℕ) (h : ℕ → ℕ → ℕ) (xs ys : List ℕ) (f g : ℕ → ℕ) → IsLanes n xs f → IsLanes n ys g
    → IsLanes n (zip2 h xs ys) (λ k. h (f k) (g k))
lanes_zip n h xs ys f g p q = record {
  long = length-zip2 h xs ys (p.long ∙ sym q.long) ∙ p.long;
  lanes = λ k lt. get_or-zip2 h xs ys k 0 0 0 (omega (arith, p.long)) (omega (arith, q.long))
      ∙ ap₂ h (p.lanes k lt) (q.lanes k lt);
}

-- a choice of each lane by the top bit of a mask's lane
pub lanes_select : (h n : ℕ) (ms xs ys : List ℕ) (m f g : ℕ → ℕ) → IsLanes n ms m → IsLanes n xs f → IsLanes n ys g
    → IsLanes n (sel_l (map (top h) ms) xs ys) (λ k. cond (top h (m k)) (f k) (g k))
lanes_select h n ms xs ys m f g o p q =
    let long : length (map (top h) ms) ≡ n = length-map ms (top h) ∙ o.long in
    record {
      long = length-sel_l (map (top h) ms) xs ys (long ∙ sym p.long) (long ∙ sym q.long) ∙ long;
      lanes = λ k lt.
          let bit : get_or (map (top h) ms) k false ≡ top h (m k) =
          get_or-map (top h) ms k 0 false (omega (arith, o.long)) ∙ ap (top h) (o.lanes k lt) in
          get_or-sel_l (map (top h) ms) xs ys k 0 (omega (arith, long)) (omega (arith, p.long)) (omega (arith, q.long))
          ∙ ap (λ b. cond b (get_or xs k 0) (get_or ys k 0)) bit
          ∙ ap₂ (λ x y. cond (top h (m k)) x y) (p.lanes k lt) (q.lanes k lt);
    }

pub lane_small : (xs : List ℕ) (n k : ℕ) → length xs ≡ n → Each1 (Fits w8) xs → k < n → slice_index xs k < 256
lane_small xs n k long h lt = (Each1-get_or (Fits w8) xs k 0 (omega arith) h).fits

-- the list of the lanes
pub lanes_list : (n : ℕ) (xs : List ℕ) (f g : ℕ → ℕ) → IsLanes n xs f → ((k : ℕ) → k < n → f k ≡ g k)
    → xs ≡ map g (range_with_len 0 n)
lanes_list n xs f g p same = fill_by_all g xs n 0 p.long (λ k lt. p.lanes k lt ∙ same k lt)

-- the lanes of a list by their places
pub lanes_map : (n : ℕ) (f : ℕ → ℕ) → IsLanes n (map f (range_with_len 0 n)) f
lanes_map n f = record {
  long = length-map-range_with_len f 0 n;
  lanes = λ k lt. get_or-map-range_with_len f 0 n k k 0 lt (omega arith);
}

-- a division of each lane by one number
pub lanes_divide : (n b : ℕ) (xs : List ℕ) → 0 < b → Each2 (λ (x y : ℕ). 0 < y) xs (replicate n b)
lanes_divide n b xs lt = Each2-splat (λ (x y : ℕ). 0 < y) xs n b (Each1-all (λ (x : ℕ). 0 < b) (λ x. lt) xs)

counted_by : (n r : ℕ) (xs : List ℕ) → length xs ≡ n → n ≤ 64 → r ≡ first_set n (mask_l (map (top 7) xs) % 2 ^ 64)
    → r ≡ prefix_len (λ x. not (top 7 x)) xs
counted_by n r xs long few found =
    found ∙ ap (first_set n) (mask_l-mod (map (top 7) xs) 64 (omega (arith, length-map xs (top 7), long)))
    ∙ first_set_mask_l (top 7) xs n long few

-- The lanes before the first whose top bit is set.
pub before_set : (n r : ℕ) (xs : List ℕ) (f : ℕ → ℕ) → IsLanes n xs f → n ≤ 64
    → r ≡ first_set n (mask_l (map (top 7) xs) % 2 ^ 64) → (r ≤ n) × ((k : ℕ) → k < r → top 7 (f k) ≡ false)
before_set n r xs f p few found =
    let counted = counted_by n r xs p.long few found in
    let within : r ≤ n = omega (arith, counted, p.long, prefix_len-le-length (λ x. not (top 7 x)) xs) in (
      within,
      λ k lt.
          let passes = not-true _ (prefix_len_passes (λ x. not (top 7 x)) xs k 0 (omega (arith, counted))) in
          subst (λ x. top 7 x ≡ false) (p.lanes k (omega arith)) passes,
    )

-- The top bit of that lane is set.
pub top_at_set : (n r : ℕ) (xs : List ℕ) (f : ℕ → ℕ) → IsLanes n xs f → n ≤ 64
    → r ≡ first_set n (mask_l (map (top 7) xs) % 2 ^ 64) → r < n → top 7 (f r) ≡ true
top_at_set n r xs f p few found within =
    let counted = counted_by n r xs p.long few found in
    let stops = prefix_len_stops (λ x. not (top 7 x)) xs 0 (omega (arith, counted, p.long)) in
    let here : get_or xs (prefix_len (λ x. not (top 7 x)) xs) 0 ≡ f r =
    ap (λ k. get_or xs k 0) (sym counted) ∙ p.lanes r within in
    ap (top 7) (sym here) ∙ not-false _ stops

no_bits : (xs : List ℕ) → ((k : ℕ) → k < length xs → top 7 (get_or xs k 0) ≡ false) → mask_l (map (top 7) xs) ≡ 0
no_bits [] h = refl
no_bits (x ∷ xs) h =
    ap₂ (λ b m. cond b 1 0 + 2 * m) (h 0 (omega arith)) (no_bits xs (λ k lt. h (suc k) (omega arith)))

-- Where no lane's top bit is set, no bit of the mask is.
pub none_set : (n : ℕ) (xs : List ℕ) (f : ℕ → ℕ) → IsLanes n xs f → ((k : ℕ) → k < n → top 7 (f k) ≡ false)
    → mask_l (map (top 7) xs) % 2 ^ 64 ≡ 0
none_set n xs f p none =
    ap (λ m. m % 2 ^ 64)
    (no_bits xs (λ k lt. let within : k < n = omega (arith, p.long) in ap (top 7) (p.lanes k within) ∙ none k within))

pub top_mask : (t : Bool) → top 7 (cond t 255 0) ≡ t
top_mask true = refl
top_mask false = refl

-- lanes of comparisons that are clear
pub same_is : (a b : ℕ) → top 7 (other a b) ≡ false → a ≡ b
same_is a b e = let t : not (eqb a b) ≡ false = sym (top_mask (not (eqb a b))) ∙ e in grind (arith, nat_tests)

pub is_same : (a b : ℕ) → a ≡ b → top 7 (other a b) ≡ false
is_same a b e = top_mask (not (eqb a b)) ∙ ap not (eq-eqb a b e)

-- a lane of two masks joined
pub neither : (a b : Bool) → top 7 (bit_or (cond a 255 0) (cond b 255 0)) ≡ false → (a ≡ false) × (b ≡ false)
neither true true e = absurd (cc)
neither true false e = absurd (cc)
neither false true e = absurd (cc)
neither false false e = (refl, refl)
