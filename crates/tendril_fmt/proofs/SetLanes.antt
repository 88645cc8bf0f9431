-- The bytes of a block that are one of four, by vectors.
use Rattle.std.proofs.Common.{
  ◌≡◌,
  ◌⊎◌,
  ℕ,
  ◌<◌,
  ◌≤◌,
  ◌^◌,
  ◌%◌,
  ◌||◌,
  Bool,
  true,
  false,
  cond,
  eqb,
  leb,
  List,
  [],
  ◌∷◌,
  length,
  get_or,
  map,
  replicate,
  refl,
  sym,
  ap,
  ◌∙◌,
  subst,
  arith,
  inl,
  inr,
}
use Rattle.std.specs.Prelude.{bit_or}
use Rattle.std.specs.Int.{bit_at}
use Rattle.std.specs.Simd.Lanes.{zip2, sel_l, mask_l, top}
use Rattle.std.proofs.lemmas.Bool.{cases_lt}
use Rattle.std.proofs.lemmas.List.{length-map, get_or-map, get_or_past}
use Rattle.std.proofs.lemmas.Simd.{zip2_splat, zip2-map}
use Rattle.memchr.proofs.lemmas.LaneLemmas.{is_set, bit_at-mask_l, top_bitmask}
use Rattle.tendril_fmt.specs.Sets.{is_byte4}

select_map : (p : ℕ → Bool) (v : List ℕ) (y z : ℕ)
    → sel_l (map p v) (replicate (length v) y) (replicate (length v) z) ≡ map (λ x. cond (p x) y z) v
select_map p [] y z = refl
select_map p (x ∷ xs) y z = ap (λ l. cond (p x) y z ∷ l) (select_map p xs y z)

-- a choice by the lanes that have a byte
pub select_equal : (v : List ℕ) (b n y z : ℕ) → length v ≡ n
    → sel_l (zip2 eqb v (replicate n b)) (replicate n y) (replicate n z) ≡ map (λ x. cond (eqb x b) y z) v
select_equal v b n y z long =
    ap (λ ms. sel_l ms (replicate n y) (replicate n z)) (zip2_splat eqb v n b long)
    ∙ ap (λ m. sel_l (map (λ x. eqb x b) v) (replicate m y) (replicate m z)) (sym long)
    ∙ select_map (λ x. eqb x b) v y z

-- all bits where a lane has the byte
abbrev marked : ℕ → ℕ → ℕ
marked b x = cond (eqb x b) 255 0

abbrev marked4 : ℕ → ℕ → ℕ → ℕ → ℕ → ℕ
marked4 a b c d x = bit_or (bit_or (bit_or (marked a x) (marked b x)) (marked c x)) (marked d x)

-- the lanes of four comparisons
pub joined_marks : (a b c d : ℕ) (v : List ℕ)
    → zip2 bit_or (zip2 bit_or (zip2 bit_or (map (marked a) v) (map (marked b) v)) (map (marked c) v))
    (map (marked d) v)
    ≡ map (marked4 a b c d) v
joined_marks a b c d v =
    ap (λ l. zip2 bit_or (zip2 bit_or l (map (marked c) v)) (map (marked d) v))
    (zip2-map bit_or (marked a) (marked b) v)
    ∙ ap (λ l. zip2 bit_or l (map (marked d) v)) (zip2-map bit_or (λ x. bit_or (marked a x) (marked b x)) (marked c) v)
    ∙ zip2-map bit_or (λ x. bit_or (bit_or (marked a x) (marked b x)) (marked c x)) (marked d) v

none_marked : (p q r s : Bool)
    → (128 ≤ bit_or (bit_or (bit_or (cond p 255 0) (cond q 255 0)) (cond r 255 0)) (cond s 255 0) → ⊥)
    → (p || q || r || s) ≡ false
none_marked false false false false h = refl
none_marked true false false false h = absurd (h (omega arith))
none_marked false true false false h = absurd (h (omega arith))
none_marked false false true false h = absurd (h (omega arith))
none_marked false false false true h = absurd (h (omega arith))
none_marked true true false false h = absurd (h (omega arith))
none_marked true false true false h = absurd (h (omega arith))
none_marked true false false true h = absurd (h (omega arith))
none_marked false true true false h = absurd (h (omega arith))
none_marked false true false true h = absurd (h (omega arith))
none_marked false false true true h = absurd (h (omega arith))
none_marked true true true false h = absurd (h (omega arith))
none_marked true true false true h = absurd (h (omega arith))
none_marked true false true true h = absurd (h (omega arith))
none_marked false true true true h = absurd (h (omega arith))
none_marked true true true true h = absurd (h (omega arith))

module _ (a b c d : ℕ) (v : List ℕ) where
  -- the mask of the lanes that have one of the four
  abbrev mask : ℕ
  mask = mask_l (map is_set (map (marked4 a b c d) v))

  -- what the code computes of four comparisons
  pub mask_is : (p q r s : List ℕ) → p ≡ map (marked a) v → q ≡ map (marked b) v → r ≡ map (marked c) v
      → s ≡ map (marked d) v → length v ≡ 16
      → mask_l (map (top 7) (zip2 (λ x y. cond (leb x y) 255 0) (replicate 16 128)
      (zip2 bit_or (zip2 bit_or (zip2 bit_or p q) r) s))) % 2 ^ 64 ≡ mask
  mask_is p q r s e f g h long =
      let any : zip2 bit_or (zip2 bit_or (zip2 bit_or p q) r) s ≡ map (marked4 a b c d) v =
      (λ i. zip2 bit_or (zip2 bit_or (zip2 bit_or (e i) (f i)) (g i)) (h i)) ∙ joined_marks a b c d v in
      ap (λ l. mask_l (map (top 7) (zip2 (λ x y. cond (leb x y) 255 0) (replicate 16 128) l)) % 2 ^ 64) any
      ∙ top_bitmask (map (marked4 a b c d) v) 16 (length-map v (marked4 a b c d) ∙ long) (omega arith)

  pub others : (k : ℕ) → k < length v → bit_at mask k ≡ 0 → is_byte4 a b c d (get_or v k 0) ≡ false
  others k l zero =
      let bit = bit_at-mask_l (map (marked4 a b c d) v) k in
      let x = get_or v k 0 in
      let read : get_or (map (marked4 a b c d) v) k 0 ≡ marked4 a b c d x = get_or-map (marked4 a b c d) v k 0 0 l in
      none_marked (eqb x a) (eqb x b) (eqb x c) (eqb x d)
      (λ h. let one : bit_at mask k ≡ 1 = bit.1 (subst (λ m. 128 ≤ m) (sym read) h) in omega (arith, zero, one))

  pub within : (k : ℕ) → bit_at mask k ≡ 1 → k < length v
  within k one = there (cases_lt k (length v))
    where
      there : (k < length v) ⊎ (length v ≤ k) → k < length v
      there (inl l) = l
      there (inr h) =
          let high = (bit_at-mask_l (map (marked4 a b c d) v) k).0 one in
          let past : get_or (map (marked4 a b c d) v) k 0 ≡ 0 = get_or_past (map (marked4 a b c d) v) k 0
          (omega (arith, h, length-map v (marked4 a b c d))) in
          absurd (omega (arith, high, past))
