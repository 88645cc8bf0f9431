-- The table of the places of the set bits of a number.
use Rattle.std.proofs.Common.{◌≡◌, ℕ, zero, suc, ◌+◌, ◌*◌, ◌/◌, ◌%◌, ◌^◌, ◌<◌, ◌≤◌, Bool, true, false, not, ◌&&◌}
use Rattle.std.proofs.Common.{cond, eqb, ltb, List, [], ◌∷◌, ◌++◌, length, map, get_or, refl, ap, ap₂, subst, ◌∙◌}
use Rattle.std.proofs.Common.{arith, inl, inr, count_ones, replicate, sym, take, w32}
use Rattle.std.specs.Int.{to_le_bytes}
use Rattle.std.specs.Simd.Lanes.{mask_l, pick_l, zip2}
use Rattle.tendril_fmt.proofs.Lanes.{div, rem}
use Rattle.std.proofs.lemmas.Bool.{and_parts, cases_lt, eqb-true, ltb-true}
use Rattle.std.proofs.lemmas.List.{get_or-take, length-map}
use Rattle.std.proofs.lemmas.Nat.{ones_le_self}
use Rattle.std.proofs.lemmas.Simd.{mask_l-lt, ones-mask_l_cons}
use Rattle.tendril_fmt.specs.declared.fmt.unit_blocks.TheConstants.{PLACES}
use Rattle.tendril_fmt.specs.Units.{continues, starts}

abbrev marks : List ℕ → List Bool
marks = map (λ b. not (continues b))

-- the places of the set bits, the first of which is at this place
abbrev trues : ℕ → List Bool → List ℕ
trues at [] = []
trues at (b ∷ bs) = cond b (at ∷ trues (at + 1) bs) (trues (at + 1) bs)

abbrev bits_of : ℕ → ℕ → List Bool
bits_of zero m = []
bits_of (suc n) m = eqb (m % 2) 1 ∷ bits_of n (m / 2)

-- the digits of four bytes, the lower one of each first
abbrev pub digits : List ℕ → List ℕ
digits bytes =
    pick_l 0 (zip2 rem bytes (replicate 4 16) ++ zip2 div bytes (replicate 4 16))
    (0 ∷ 4 ∷ 1 ∷ 5 ∷ 2 ∷ 6 ∷ 3 ∷ 7 ∷ [])

abbrev pub row : ℕ → List ℕ
row m = digits (to_le_bytes w32 (get_or PLACES m 0))

abbrev are_same : List ℕ → List ℕ → Bool
are_same [] [] = true
are_same [] (y ∷ ys) = false
are_same (x ∷ xs) [] = false
are_same (x ∷ xs) (y ∷ ys) = eqb x y && are_same xs ys

same_from : (xs ys : List ℕ) → are_same xs ys ≡ true → xs ≡ ys
same_from [] [] e = refl
same_from [] (y ∷ ys) e = absurd (cc)
same_from (x ∷ xs) [] e = absurd (cc)
same_from (x ∷ xs) (y ∷ ys) e =
    let both = and_parts (eqb x y) (are_same xs ys) e in
    ap₂ (λ z l. z ∷ l) (eqb-true x y both.0) (same_from xs ys both.1)

abbrev are_below : ℕ → List ℕ → Bool
are_below n [] = true
are_below n (x ∷ xs) = ltb x n && are_below n xs

below_from : (n : ℕ) (xs : List ℕ) (k : ℕ) → 0 < n → are_below n xs ≡ true → get_or xs k 0 < n
below_from n [] k some e = some
below_from n (x ∷ xs) zero some e =
    ltb-true x n (and_parts (ltb x n) (are_below n xs) e).0
below_from n (x ∷ xs) (suc k) some e = below_from n xs k some (and_parts (ltb x n) (are_below n xs) e).1

abbrev row_is : ℕ → Bool
row_is m =
    are_same (take (length (trues 0 (bits_of 8 m))) (row m)) (trues 0 (bits_of 8 m)) && are_below 8 (row m)

abbrev rows_are : ℕ → Bool
rows_are zero = true
rows_are (suc n) = row_is n && rows_are n

each_row : (n m : ℕ) → rows_are n ≡ true → m < n → row_is m ≡ true
each_row zero m e lt = absurd (omega arith)
each_row (suc n) m e lt =
    let both = and_parts (row_is n) (rows_are n) e in
    elim (cases_lt m n) [
      | inl before ↦ each_row n m both.1 before
      | inr last ↦ let same : n ≡ m = omega arith in subst (λ k. row_is k ≡ true) same both.0
    ]

-- by computing all rows
table_is : rows_are 256 ≡ true
table_is = refl

bits-mask : (bs : List Bool) → bits_of (length bs) (mask_l bs) ≡ bs
bits-mask [] = refl
bits-mask (true ∷ bs) =
    let half : (1 + 2 * mask_l bs) / 2 ≡ mask_l bs = omega arith in
    let odd : (1 + 2 * mask_l bs) % 2 ≡ 1 = omega arith in
    ap₂ (λ n m. eqb n 1 ∷ bits_of (length bs) m) odd half ∙ ap (λ l. true ∷ l) (bits-mask bs)
bits-mask (false ∷ bs) =
    let half : (0 + 2 * mask_l bs) / 2 ≡ mask_l bs = omega arith in
    let even : (0 + 2 * mask_l bs) % 2 ≡ 0 = omega arith in
    ap₂ (λ n m. eqb n 1 ∷ bits_of (length bs) m) even half ∙ ap (λ l. false ∷ l) (bits-mask bs)

-- one place more, or none
place_more : (t : Bool) (at : ℕ) (xs ys : List ℕ) → xs ≡ ys → cond (not t) (at ∷ xs) xs ≡ cond t ys (at ∷ ys)
place_more true at xs ys e = e
place_more false at xs ys e = ap (λ l. at ∷ l) e

trues-marks : (at : ℕ) (xs : List ℕ) → trues at (marks xs) ≡ starts at xs
trues-marks at [] = refl
trues-marks at (x ∷ xs) =
    place_more (continues x) at (trues (at + 1) (marks xs)) (starts (at + 1) xs) (trues-marks (at + 1) xs)

one_more : (t : Bool) (at n : ℕ) (xs : List ℕ) → n ≡ length xs → cond (not t) 1 0 + n ≡ length (cond t xs (at ∷ xs))
one_more true at n xs e = omega (arith, e)
one_more false at n xs e = omega (arith, e)

pub ones-marks : (at : ℕ) (xs : List ℕ) → count_ones (mask_l (marks xs)) ≡ length (starts at xs)
ones-marks at [] = omega (arith, ones_le_self 0)
ones-marks at (x ∷ xs) =
    ones-mask_l_cons (not (continues x)) (marks xs)
    ∙ one_more (continues x) at (count_ones (mask_l (marks xs))) (starts (at + 1) xs) (ones-marks (at + 1) xs)

fewer : (t : Bool) (at n : ℕ) (xs : List ℕ) → length xs ≤ n → length (cond t xs (at ∷ xs)) ≤ suc n
fewer true at n xs le = omega (arith, le)
fewer false at n xs le = omega (arith, le)

pub length-starts : (at : ℕ) (xs : List ℕ) → length (starts at xs) ≤ length xs
length-starts at [] = omega arith
length-starts at (x ∷ xs) = fewer (continues x) at (length xs) (starts (at + 1) xs) (length-starts (at + 1) xs)

pub row_below : (m k : ℕ) → m < 256 → get_or (row m) k 0 < 8
row_below m k lt = below_from 8 (row m) k (omega arith) (and_parts _ _ (each_row 256 m table_is lt)).1

-- the places are those of the bytes that begin a sequence
pub row_places : (xs : List ℕ) (m k : ℕ) → length xs ≡ 8 → m ≡ mask_l (marks xs) → k < length (starts 0 xs)
    → get_or (row m) k 0 ≡ get_or (starts 0 xs) k 0
row_places xs m k long mark within =
    let eight : length (marks xs) ≡ 8 = length-map xs (λ b. not (continues b)) ∙ long in
    let small : mask_l (marks xs) < 256 = subst (λ n. mask_l (marks xs) < 2 ^ n) eight (mask_l-lt (marks xs)) in
    let same = same_from _ _ (and_parts _ _ (each_row 256 m table_is (omega (arith, mark, small)))).0 in
    let bits : bits_of 8 (mask_l (marks xs)) ≡ marks xs =
    subst (λ n. bits_of n (mask_l (marks xs)) ≡ marks xs) eight (bits-mask (marks xs)) in
    let places : trues 0 (bits_of 8 m) ≡ starts 0 xs =
    ap (λ m. trues 0 (bits_of 8 m)) mark ∙ ap (trues 0) bits ∙ trues-marks 0 xs in
    let front : take (length (starts 0 xs)) (row m) ≡ starts 0 xs =
    subst (λ l. take (length l) (row m) ≡ l) places same in
    sym (get_or-take (length (starts 0 xs)) (row m) k 0 within) ∙ ap (λ l. get_or l k 0) front

pub front_units : (u : ℕ → ℕ) (ds xs : List ℕ) → length xs ≤ length ds
    → ((k : ℕ) → k < length xs → get_or ds k 0 ≡ u (get_or xs k 0)) → take (length xs) ds ≡ map u xs
front_units u ds [] few is = refl
front_units u [] (x ∷ xs) few is = absurd (omega arith)
front_units u (d ∷ ds) (x ∷ xs) few is =
    ap₂ (λ z l. z ∷ l) (is 0 (omega arith)) (front_units u ds xs (omega arith) (λ k lt. is (suc k) (omega arith)))
