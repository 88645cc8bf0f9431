-- The units of WTF-8 are unique, and joining units joins texts.
use Rattle.std.proofs.Common.{
  ◌≡◌,
  ℕ,
  ◌+◌,
  ◌-◌,
  ◌/◌,
  ◌%◌,
  ◌<◌,
  ◌≤◌,
  Bool,
  true,
  false,
  ◌&&◌,
  List,
  [],
  ◌∷◌,
  ◌++◌,
  flat_map,
  slice_index,
  nat_lt,
  refl,
  sym,
  ap,
  ap₂,
  subst,
  ◌∙◌,
  arith,
  ⊎_elim,
  append_assoc,
}
use Rattle.std.specs.List.{AllByRecursion}
use Rattle.std.specs.Str.{IsUtf8, encode_utf8_all, all_scalars}
use lib.Utf8.{scalar_cases}
use Rattle.std.specs.Char.Utf16.{is_high_surrogate, is_low_surrogate, surrogate_pair_char}
use Rattle.std.specs.Char.Escape.{encode_utf16}
use Rattle.std.proofs.lemmas.Bool.{cases_Bool, cases_lt, cond-true, cond-false, and_parts}
use Rattle.std.proofs.lemmas.Bool.Decides.{nat_tests}
use Rattle.tendril_fmt.specs.Bytes.{AreBytes}
use Rattle.tendril_fmt.specs.CodePoints.{IsCodePoint}
use Rattle.tendril_fmt.specs.Wtf8.{IsUnit, code_points, wtf8, IsWtf8, units, wtf8_join}
use Rattle.tendril_fmt.specs.Proved.Unpaired.{IsApart, AreUnpaired}
use Rattle.tendril_fmt.specs.Proved.Bytes.{AreBytes-encode_utf8_all}
use Rattle.tendril_fmt.specs.Proved.Encodings.{chars-code_points, IsCodePoint-scalar}

-- a term with its type, where a tactic needs to know it
abbrev by : (A : Type 0) → A → A
by A a = a

-- a code point below 0x10000 is one unit
pub one_unit : (c : ℕ) → c < 0x1_0000 → encode_utf16 c ≡ c ∷ []
one_unit c h = cond-true _ _ _ (by (nat_lt c 0x1_0000 ≡ true) (grind (arith, nat_tests)))

pub two_units : (c : ℕ) → 0x1_0000 ≤ c
    → encode_utf16 c ≡ (0xD800 + (c - 0x1_0000) / 0x400) ∷ (0xDC00 + (c - 0x1_0000) % 0x400) ∷ []
two_units c h = cond-false _ _ _ (by (nat_lt c 0x1_0000 ≡ false) (grind (arith, nat_tests)))

-- a lead and a trail
abbrev pub pairs : ℕ → ℕ → Bool
pairs u v = is_high_surrogate u && is_low_surrogate v

pair_bounds : (u v : ℕ) → pairs u v ≡ true → (0xD800 ≤ u) × (u < 0xDC00) × (0xDC00 ≤ v) × (v < 0xE000)
pair_bounds u v e =
    (grind (arith, nat_tests), grind (arith, nat_tests), grind (arith, nat_tests), grind (arith, nat_tests))

-- the character of a pair has its two units
pub pair_units : (u v : ℕ) → pairs u v ≡ true → encode_utf16 (surrogate_pair_char u v) ≡ u ∷ v ∷ []
pair_units u v e =
    let b = pair_bounds u v e in
    two_units (surrogate_pair_char u v) (omega arith) ∙ ap₂ (λ x y. x ∷ y ∷ []) (omega arith) (omega arith)

-- the units of the code points that units spell are those units
pub units-code_points : (us : List ℕ) → AllByRecursion IsUnit us → flat_map encode_utf16 (code_points us) ≡ us
units-code_points [] h = refl
units-code_points (u ∷ []) h = ap (λ l. l ++ []) (one_unit u h.0)
units-code_points (u ∷ v ∷ us) h = ⊎_elim
    (λ yes.
    let b = pair_bounds u v yes in
    ap (flat_map encode_utf16) (cond-true (pairs u v) _ _ yes)
    ∙ ap₂ (λ x y. x ++ y) (pair_units u v yes) (units-code_points us h.1.1))
    (λ no.
    ap (flat_map encode_utf16) (cond-false (pairs u v) _ _ no)
    ∙ ap₂ (λ x y. x ++ y) (one_unit u h.0) (units-code_points (v ∷ us) h.1))
    (cases_Bool (pairs u v))

-- units spell numbers that are code points
pub bounded-code_points : (us : List ℕ) → AllByRecursion IsUnit us → AllByRecursion IsCodePoint (code_points us)
bounded-code_points [] h = tt
bounded-code_points (u ∷ []) h = (omega (arith, h.0), tt)
bounded-code_points (u ∷ v ∷ us) h = ⊎_elim
    (λ yes.
    let b = pair_bounds u v yes in
    subst (AllByRecursion IsCodePoint) (sym (cond-true (pairs u v) _ _ yes))
    (omega arith, bounded-code_points us h.1.1))
    (λ no. subst (AllByRecursion IsCodePoint) (sym (cond-false (pairs u v) _ _ no))
    (omega (arith, h.0), bounded-code_points (v ∷ us) h.1))
    (cases_Bool (pairs u v))

-- the units of the WTF-8 of units are these units
pub units-wtf8 : (us : List ℕ) → AllByRecursion IsUnit us → units (wtf8 us) ≡ us
units-wtf8 us h =
    ap (flat_map encode_utf16) (chars-code_points (code_points us) (bounded-code_points us h)) ∙ units-code_points us h

-- the units of valid bytes are 16-bit numbers
pub IsUnit-units : (bs : List ℕ) → IsWtf8 bs → AllByRecursion IsUnit (units bs)
IsUnit-units bs w = subst (AllByRecursion IsUnit) (sym (units-wtf8 w.0 w.1) ∙ ap units w.2) w.1

-- the WTF-8 of the units of valid bytes is these bytes
pub wtf8-units : (bs : List ℕ) → IsWtf8 bs → wtf8 (units bs) ≡ bs
wtf8-units bs w = ap wtf8 (sym (ap units w.2) ∙ units-wtf8 w.0 w.1) ∙ w.2

both_units : (us vs : List ℕ) → AllByRecursion IsUnit us → AllByRecursion IsUnit vs → AllByRecursion IsUnit (us ++ vs)
both_units [] vs h k = k
both_units (u ∷ us) vs h k = (h.0, both_units us vs h.1 k)

-- a join is valid
pub IsWtf8-join : (l r : List ℕ) → IsWtf8 l → IsWtf8 r → IsWtf8 (wtf8_join l r)
IsWtf8-join l r h k = (units l ++ units r, both_units _ _ (IsUnit-units l h) (IsUnit-units r k), refl)

-- the units of a join are those of the left, then those of the right
pub units-join : (l r : List ℕ) → IsWtf8 l → IsWtf8 r → units (wtf8_join l r) ≡ units l ++ units r
units-join l r h k = units-wtf8 _ (both_units _ _ (IsUnit-units l h) (IsUnit-units r k))

-- of three texts it does not matter which two are joined first
pub join_assoc : (a b c : List ℕ) → IsWtf8 a → IsWtf8 b → IsWtf8 c
    → wtf8_join (wtf8_join a b) c ≡ wtf8_join a (wtf8_join b c)
join_assoc a b c h k l =
    ap (λ us. wtf8 (us ++ units c)) (units-join a b h k) ∙ ap wtf8 (append_assoc (units a) (units b) (units c)) ∙ ap
    (λ us. wtf8 (units a ++ us)) (sym (units-join b c k l))

-- WTF-8 by code points

points_lone : (u : ℕ) (us : List ℕ) → IsApart u us → code_points (u ∷ us) ≡ u ∷ code_points us
points_lone u [] h = refl
points_lone u (v ∷ us) h = cond-false (pairs u v) _ _ h

low_head : (v : ℕ) (us : List ℕ) → is_low_surrogate (slice_index (code_points (v ∷ us)) 0) ≡ is_low_surrogate v
low_head v [] = refl
low_head v (w ∷ us) = ⊎_elim
    (λ yes.
    let b = pair_bounds v w yes in
    ap (λ l. is_low_surrogate (slice_index l 0))
    (cond-true (pairs v w) (surrogate_pair_char v w ∷ code_points us) (v ∷ code_points (w ∷ us)) yes)
    ∙ grind (arith, nat_tests))
    (λ no. ap (λ l. is_low_surrogate (slice_index l 0))
    (cond-false (pairs v w) (surrogate_pair_char v w ∷ code_points us) (v ∷ code_points (w ∷ us)) no))
    (cases_Bool (pairs v w))

pair_apart : (u v : ℕ) (cs : List ℕ) → pairs u v ≡ true → IsApart (surrogate_pair_char u v) cs
pair_apart u v cs e = let b = pair_bounds u v e in grind (arith, nat_tests)

-- units spell no lead right before a trail
pub AreUnpaired-code_points : (us : List ℕ) → AllByRecursion IsUnit us → AreUnpaired (code_points us)
AreUnpaired-code_points [] h = tt
AreUnpaired-code_points (u ∷ []) h = (omega (arith, h.0), grind (arith, nat_tests), tt)
AreUnpaired-code_points (u ∷ v ∷ us) h = ⊎_elim
    (λ yes.
    let b = pair_bounds u v yes in
    subst AreUnpaired (sym (cond-true (pairs u v) _ _ yes))
    (omega arith, pair_apart u v (code_points us) yes, AreUnpaired-code_points us h.1.1))
    (λ no. subst AreUnpaired (sym (cond-false (pairs u v) _ _ no)) (
      omega (arith, h.0),
      ap (λ t. is_high_surrogate u && t) (low_head v us) ∙ no,
      AreUnpaired-code_points (v ∷ us) h.1,
    ))
    (cases_Bool (pairs u v))

low_units : (cs : List ℕ) → AreUnpaired cs
    → is_low_surrogate (slice_index (flat_map encode_utf16 cs) 0) ≡ is_low_surrogate (slice_index cs 0)
low_units [] h = refl
low_units (c ∷ cs) h = ⊎_elim
    (λ low. ap (λ l. is_low_surrogate (slice_index (l ++ flat_map encode_utf16 cs) 0)) (one_unit c low))
    (λ high. ap (λ l. is_low_surrogate (slice_index (l ++ flat_map encode_utf16 cs) 0))
    (two_units c high) ∙ heads c h.0 high)
    (cases_lt c 0x1_0000)
  where
    heads : (c : ℕ) → c < 0x11_0000 → 0x1_0000 ≤ c
        → is_low_surrogate (0xD800 + (c - 0x1_0000) / 0x400) ≡ is_low_surrogate c
    heads c top high = let k : (c - 0x1_0000) / 0x400 < 0x400 = omega arith in grind (arith, nat_tests)

-- code points without such a pair are what their units spell
pub code_points-units : (cs : List ℕ) → AreUnpaired cs → code_points (flat_map encode_utf16 cs) ≡ cs
code_points-units [] h = refl
code_points-units (c ∷ cs) h = let later = code_points-units cs h.2 in ⊎_elim
    (λ low.
    ap (λ l. code_points (l ++ flat_map encode_utf16 cs)) (one_unit c low)
    ∙ points_lone c (flat_map encode_utf16 cs) (ap (λ t. is_high_surrogate c && t) (low_units cs h.2) ∙ h.1) ∙ ap
    (λ l. c ∷ l) later)
    (λ high.
    let u = 0xD800 + (c - 0x1_0000) / 0x400 in
    let v = 0xDC00 + (c - 0x1_0000) % 0x400 in
    let k : (c - 0x1_0000) / 0x400 < 0x400 = omega (arith, h.0) in
    let both : pairs u v ≡ true = grind (arith, nat_tests) in
    let same : surrogate_pair_char u v ≡ c = omega arith in
    ap (λ l. code_points (l ++ flat_map encode_utf16 cs)) (two_units c high)
    ∙ cond-true (pairs u v) _ _ both ∙ ap₂ (λ x y. x ∷ y) same later)
    (cases_lt c 0x1_0000)

IsUnit-flat : (cs : List ℕ) → AreUnpaired cs → AllByRecursion IsUnit (flat_map encode_utf16 cs)
IsUnit-flat [] h = tt
IsUnit-flat (c ∷ cs) h = both_units (encode_utf16 c) _ (⊎_elim
    (λ low. subst (AllByRecursion IsUnit) (sym (one_unit c low)) (low, tt))
    (λ high. subst (AllByRecursion IsUnit) (sym (two_units c high)) (omega (arith, h.0), (omega arith, tt)))
    (cases_lt c 0x1_0000)) (IsUnit-flat cs h.2)

-- the encoding of code points is valid WTF-8 if no lead is right before a trail
pub IsWtf8-from_points : (cs : List ℕ) → AreUnpaired cs → IsWtf8 (encode_utf8_all cs)
IsWtf8-from_points cs h = (flat_map encode_utf16 cs, IsUnit-flat cs h, ap encode_utf8_all (code_points-units cs h))

-- each valid text is the encoding of such code points
pub points_of : (bs : List ℕ) → IsWtf8 bs → (cs : List ℕ) × AreUnpaired cs × (encode_utf8_all cs ≡ bs)
points_of bs w = (code_points w.0, AreUnpaired-code_points w.0 w.1, w.2)

-- the empty text is WTF-8
pub IsWtf8-nil : IsWtf8 []
IsWtf8-nil = ([], tt, refl)

-- the encodings of code points are bytes
pub AreBytes-from_wtf8 : (bs : List ℕ) → IsWtf8 bs → AreBytes bs
AreBytes-from_wtf8 bs w = subst AreBytes w.2 (AreBytes-encode_utf8_all (code_points w.0) (bounded-code_points w.0 w.1))

-- among scalar values, no lead is right before a trail
AreUnpaired-scalars : (cs : List ℕ) → all_scalars cs ≡ true → AreUnpaired cs
AreUnpaired-scalars [] h = tt
AreUnpaired-scalars (c ∷ cs) h =
    let b = and_parts _ _ h in
    let apart : is_high_surrogate c ≡ false =
    ⊎_elim (λ (p : c < 0xD800). grind (arith, nat_tests)) (λ p. let low = p.0 in grind (arith, nat_tests))
    (scalar_cases c b.0) in
    (IsCodePoint-scalar c b.0, ap (λ t. t && is_low_surrogate (slice_index cs 0)) apart, AreUnpaired-scalars cs b.1)

-- UTF-8 is WTF-8
pub IsWtf8-from_utf8 : (bs : List ℕ) → IsUtf8 bs → IsWtf8 bs
IsWtf8-from_utf8 bs u = subst IsWtf8 u.1.1 (IsWtf8-from_points u.0 (AreUnpaired-scalars u.0 u.1.0))

pub AreBytes-from_utf8 : (bs : List ℕ) → IsUtf8 bs → AreBytes bs
AreBytes-from_utf8 bs u = AreBytes-from_wtf8 bs (IsWtf8-from_utf8 bs u)
