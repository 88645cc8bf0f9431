-- The ranges of gb18030, and the end of a stream.
use Rattle.std.proofs.Common.{◌≡◌, ℕ, zero, suc, ◌+◌, ◌-◌, ◌<◌, ◌≤◌, Bool, true, false, List, [], ◌∷◌, length}
use Rattle.std.proofs.Common.{get_or, refl, sym, ap, ap₂, ◌∙◌, arith, ltb-true, lit<, subst, Fits, w32, map}
use Rattle.std.proofs.Common.{◌&&◌, ◌≢◌, ◌++◌}
use Rattle.std.specs.Prelude.{nat_lt, nat_le, ◌==◌, ◌||◌, Option, Some, None, option_to_list}
use Rattle.std.specs.Str.{all_scalars, encode_utf8_all}
use Rattle.std.specs.Char.{IsScalar}
use Rattle.std.specs.List.Sorted.{IsPartitionPoint, IsPartitionedBy}
use Rattle.std.proofs.lemmas.Bool.{and_parts, and_from, cond-true, cond-false, cond_both}
use Rattle.std.proofs.lemmas.Bool.Decides.{nat_tests}
use Rattle.std.proofs.lemmas.List.Sorted.{IsPartitionedBy-leb}
use Rattle.tendril_lossy.specs.Lossy.{Char}
use Rattle.tendril_decode.specs.Machines.{EndsTo, broken_marks, invalid}
use Rattle.tendril_decode.specs.Gb18030.{gb18030, range_code, ranges_code, ends_kept, tells_owed}
use Rattle.tendril_decode.specs.Gb18030.{is_digit, is_fit, is_owed_fit, is_kept_fit}
use Rattle.tendril_decode.specs.declared.gb18030.Gb18030.{Gb18030}
use Rattle.tendril_decode.specs.declared.gb18030.Kept.{Kept}
use Rattle.tendril_decode.specs.declared.gb18030.Kept.TheVariants.{Nothing, First, Second, Third}
use Rattle.tendril_decode.specs.declared.tables.gb18030_ranges.TheConstants.{GB18030_RANGES}
use Rattle.tendril_decode.proofs.Endings.{EndsTo-last}

-- the first pointer of the ranges that are left, or the end
abbrev next_of : List (ℕ × ℕ) → ℕ → ℕ
next_of [] end = end
next_of (r ∷ rs) end = r.0

-- whether the pointers of a range, up to the next one, rise, and have scalar values as characters
abbrev is_range : ℕ × ℕ → ℕ → Bool
is_range r end =
    nat_lt r.0 end && (nat_le (r.1 + (end - r.0)) 0xD800 || (nat_le 0xE000 r.1 && nat_le (r.1 + (end - r.0)) 0x11_0000))

unfoldable are_ranges : List (ℕ × ℕ) → ℕ → Bool
are_ranges [] end = true
are_ranges (r ∷ rs) end = is_range r (next_of rs end) && are_ranges rs end

le_test : (a b : ℕ) → a ≤ b → nat_le a b ≡ true
le_test a b h = grind (arith, nat_tests)

gt_test : (a b : ℕ) → b < a → nat_le a b ≡ false
gt_test a b h = grind (arith, nat_tests)

below_next : (r : ℕ × ℕ) (end : ℕ) → is_range r end ≡ true → r.0 < end
below_next r end h = ltb-true r.0 end (and_parts (nat_lt r.0 end) _ h).0

scalar_within : (first code end p : ℕ) → is_range (first, code) end ≡ true → first ≤ p → p < end
    → IsScalar (code + (p - first))
scalar_within first code end p h le lt = grind (arith, nat_tests)

range_parts : (r : ℕ × ℕ) (rs : List (ℕ × ℕ)) (end : ℕ) → are_ranges (r ∷ rs) end ≡ true
    → (is_range r (next_of rs end) ≡ true) × (are_ranges rs end ≡ true)
unfolding are_ranges
range_parts r rs end h = and_parts (is_range r (next_of rs end)) (are_ranges rs end) h

module _ (d : ℕ × ℕ) where
  next_first : (rs : List (ℕ × ℕ)) (end i : ℕ) → are_ranges rs end ≡ true → i < length rs
      → next_of rs end ≤ (get_or rs i d).0
  next_first [] end i h lt = absurd (omega arith)
  next_first (r ∷ rs) end zero h lt = omega arith
  next_first (r ∷ rs) end (suc i) h lt =
      let both = range_parts r rs end h in
      omega (arith, below_next r (next_of rs end) both.0, next_first rs end i both.1 (omega arith))

  rises : (rs : List (ℕ × ℕ)) (end i j : ℕ) → are_ranges rs end ≡ true → i ≤ j → j < length rs
      → (get_or rs i d).0 ≤ (get_or rs j d).0
  rises [] end i j h le lt = absurd (omega arith)
  rises (r ∷ rs) end zero j h le lt = next_first (r ∷ rs) end j h lt
  rises (r ∷ rs) end (suc i) zero h le lt = absurd (omega arith)
  rises (r ∷ rs) end (suc i) (suc j) h le lt = rises rs end i j (range_parts r rs end h).1 (omega arith) (omega arith)

  abbrev pub code_at : List (ℕ × ℕ) → ℕ → ℕ → ℕ
  code_at rs i p = (get_or rs i d).1 + (p - (get_or rs i d).0)

  range_code-at : (rs : List (ℕ × ℕ)) (end i p code : ℕ) → are_ranges rs end ≡ true → i < length rs
      → (get_or rs i d).0 ≤ p → (suc i < length rs → p < (get_or rs (suc i) d).0)
      → range_code code rs p ≡ code_at rs i p
  unfolding range_code
  range_code-at [] end i p code h lt le next = absurd (omega arith)
  range_code-at (r ∷ []) end zero p code h lt le next = cond-true _ _ _ (le_test r.0 p le)
  range_code-at (r ∷ (q ∷ rs)) end zero p code h lt le next =
      cond-true _ _ _ (le_test r.0 p le) ∙ cond-false _ _ _ (gt_test q.0 p (next (omega arith)))
  range_code-at (r ∷ rs) end (suc i) p code h lt le next =
      cond-true _ _ _ (le_test r.0 p (omega (arith, next_first (r ∷ rs) end (suc i) h lt)))
      ∙ range_code-at rs end i p (r.1 + (p - r.0)) (range_parts r rs end h).1 (omega arith) le
      (λ more. next (omega arith))

  code_scalar : (rs : List (ℕ × ℕ)) (end i p : ℕ) → are_ranges rs end ≡ true → i < length rs
      → (get_or rs i d).0 ≤ p → (suc i < length rs → p < (get_or rs (suc i) d).0) → p < end
      → IsScalar (code_at rs i p)
  code_scalar [] end i p h lt le next last = absurd (omega arith)
  code_scalar (r ∷ []) end zero p h lt le next last =
      scalar_within r.0 r.1 end p (range_parts r [] end h).0 le last
  code_scalar (r ∷ (q ∷ rs)) end zero p h lt le next last =
      scalar_within r.0 r.1 q.0 p (range_parts r (q ∷ rs) end h).0 le (next (omega arith))
  code_scalar (r ∷ rs) end (suc i) p h lt le next last =
      code_scalar rs end i p (range_parts r rs end h).1 (omega arith) le (λ more. next (omega arith)) last

all_ranges : are_ranges GB18030_RANGES 1237576 ≡ true
unfolding are_ranges
all_ranges = refl

-- the point of a pointer: how many ranges begin at it or before
abbrev pub IsAfter : List (ℕ × ℕ) → ℕ → ℕ → Type 0
IsAfter rs p after = IsPartitionPoint (λ (r : ℕ × ℕ). nat_le r.0 p ≡ true) (λ r. nat_le r.0 p ≡ false) rs after

pub ranges_parted : (p : ℕ) → IsPartitionedBy (λ (r : ℕ × ℕ). nat_le r.0 p) GB18030_RANGES
ranges_parted p = IsPartitionedBy-leb (λ r. r.0) GB18030_RANGES p
    (λ i j d le lt. rises d GB18030_RANGES 1237576 i j all_ranges le lt)

at_most : (a b : ℕ) → nat_le a b ≡ true → a ≤ b
at_most a b h = grind (arith, nat_tests)

above : (a b : ℕ) → nat_le a b ≡ false → b < a
above a b h = grind (arith, nat_tests)

-- The ranges that are left have scalar values, and so has what was found before them, unless one of them replaces it.
range_scalar : (rs : List (ℕ × ℕ)) (end p code : ℕ) → are_ranges rs end ≡ true → p < end
    → (p < next_of rs end → IsScalar code) → IsScalar (range_code code rs p)
unfolding range_code
range_scalar [] end p code h last before = before last
range_scalar (r ∷ rs) end p code h last before =
    let both = range_parts r rs end h in
    cond_both _ _ _ IsScalar
    (λ le. range_scalar rs end p (r.1 + (p - r.0)) both.1 last
    (λ lt. scalar_within r.0 r.1 (next_of rs end) p both.0 (at_most r.0 p le) lt))
    (λ gt. before (above r.0 p gt))

before_end : (p : ℕ) → ((nat_lt 39419 p && nat_lt p 189000) || nat_lt 1237575 p) ≡ false → p < 1237576
before_end p h = grind (arith, nat_tests)

-- at any pointer; 0, where there is no character, is a scalar value too
pub scalar-ranges : (p : ℕ) → IsScalar (ranges_code p)
unfolding ranges_code
scalar-ranges p =
    cond_both _ _ _ IsScalar
    (λ outside. refl)
    (λ inside. cond_both (p == 7457) 0xE7C7 (range_code 0 GB18030_RANGES p) IsScalar
    (λ one. refl)
    (λ other. range_scalar GB18030_RANGES 1237576 p 0 all_ranges (before_end p inside) (λ first. refl)))

-- The range before that point is the last one that begins at the pointer or before. (The length of the ranges isn't
-- spelled out, since that is slow.)
pub record IsLast (rs : List (ℕ × ℕ)) (d : ℕ × ℕ) (p after : ℕ) : Type 0 where
  pub some : 0 < after
  pub begins : (get_or rs (after - 1) d).0 ≤ p
  pub code : range_code 0 rs p ≡ code_at d rs (after - 1) p
  pub scalar : IsScalar (code_at d rs (after - 1) p)

last_from : (rs : List (ℕ × ℕ)) (d : ℕ × ℕ) (p after : ℕ) → are_ranges rs 1237576 ≡ true → IsAfter rs p after
    → after ≤ length rs → (get_or rs 0 d).0 ≡ 0 → 0 < length rs → p < 1237576 → IsLast rs d p after
last_from rs d p zero ok point bound starts some small =
    absurd (omega (arith, above _ _ (point.1 0 d (omega arith) some), starts))
last_from rs d p (suc i) ok point bound starts some small =
    let at : suc i - 1 ≡ i = omega arith in
    let begins : (get_or rs i d).0 ≤ p = at_most _ _ (point.0 i d (omega arith) (omega arith)) in
    let next : suc i < length rs → p < (get_or rs (suc i) d).0 =
    λ lt. above _ _ (point.1 (suc i) d (omega arith) lt) in
    record {
      some = omega arith;
      begins = subst (λ k. (get_or rs k d).0 ≤ p) (sym at) begins;
      code = range_code-at d rs 1237576 i p 0 ok bound begins next ∙ ap (λ k. code_at d rs k p) (sym at);
      scalar = subst (λ k. IsScalar (code_at d rs k p)) (sym at)
          (code_scalar d rs 1237576 i p ok bound begins next small);
    }

pub is_last : (d : ℕ × ℕ) (p after : ℕ) → IsAfter GB18030_RANGES p after → after ≤ length GB18030_RANGES
    → p < 1237576 → IsLast GB18030_RANGES d p after
is_last d p after point bound small =
    last_from GB18030_RANGES d p after all_ranges point bound refl (lit< tt) small

pub code_fits : (c : ℕ) → IsScalar c → Fits w32 c
code_fits c h = let low : c < 0x11_0000 = grind (arith, nat_tests) in omega arith

-- where something is kept, the end tells a malformed sequence
pub ends_some : (k : Kept) → k ≢ Nothing → ends_kept k ≡ invalid
ends_some Nothing h = absurd (h refl)
ends_some (First f) h = refl
ends_some (Second f s) h = refl
ends_some (Third f s t) h = refl

digit_scalar : (d : ℕ) → is_digit d ≡ true → IsScalar d
digit_scalar d h = grind (arith, nat_tests)

owed_scalars : (o : Option ℕ) → is_owed_fit o ≡ true → all_scalars (option_to_list o) ≡ true
owed_scalars None h = refl
owed_scalars (Some d) h = and_from _ _ (digit_scalar d h) refl

owed_told : (o : Option ℕ) → tells_owed o ≡ map Char (option_to_list o)
owed_told None = refl
owed_told (Some d) = refl

pub ends_done : (s t : Gb18030) (text : List ℕ) (broken : Bool) → is_fit s ≡ true
    → text ≡ encode_utf8_all (option_to_list s.owed) → ends_kept s.kept ≡ broken_marks broken → t ≡ gb18030.start
    → EndsTo gb18030 s text broken t
ends_done s t text broken fit written marks last =
    EndsTo-last gb18030 s t (option_to_list s.owed) text broken
    (owed_scalars s.owed (and_parts (is_owed_fit s.owed) (is_kept_fit s.kept) fit).0) written
    (ap₂ (λ x y. x ++ y) (owed_told s.owed) marks) (ap (λ (u : Gb18030). gb18030.ends u) last)
