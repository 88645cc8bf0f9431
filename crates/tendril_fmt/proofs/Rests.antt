-- The remainder of valid WTF-8, while code points are read.
use Rattle.std.proofs.Common.{◌≡◌, ◌≢◌, ◌↔◌, ◌⊎◌, ⊎_elim, ℕ, ◌<◌, Bool, true, false, ◌&&◌, List, [], ◌∷◌, ◌++◌, length}
use Rattle.std.proofs.Common.{slice_index, refl, sym, ap, ap₂, subst, ◌∙◌, arith, true≢false, length-append}
use Rattle.std.specs.Char.{encode_utf8, IsScalar}
use lib.Utf8.{scalar_cases}
use Rattle.std.proofs.lemmas.Bool.Decides.{nat_tests}
use Rattle.std.specs.Str.{encode_utf8_all}
use Rattle.std.specs.Char.Utf16.{is_high_surrogate, is_low_surrogate}
use Rattle.std.proofs.lemmas.Str.{encode_same, length-encode, len_utf8_bounds}
use Rattle.tendril_fmt.specs.declared.futf.Meaning.{Meaning}
use Rattle.tendril_fmt.specs.declared.futf.Meaning.TheVariants.{Whole, LeadSurrogate, TrailSurrogate, Prefix, Suffix}
use Rattle.tendril_fmt.specs.CodePoints.{IsCodePoint, IsMeaningOf, SplitsIntoNone, SplitsInto}
use Rattle.tendril_fmt.specs.Wtf8.{IsWtf8}
use Rattle.tendril_fmt.specs.Proved.Unpaired.{AreUnpaired}
use Rattle.tendril_fmt.specs.Proved.Units.{IsWtf8-from_points, points_of}

-- the bytes are WTF-8, and begin with no trail if they follow a lead
abbrev pub Rest : Bool → List ℕ → Type 0
Rest after_lead bs = (cs : List ℕ) × AreUnpaired cs × ((after_lead && is_low_surrogate (slice_index cs 0)) ≡ false)
    × (encode_utf8_all cs ≡ bs)

-- the remainder before anything was read
pub rest_start : (bs : List ℕ) → IsWtf8 bs ↔ Rest false bs
rest_start bs = (
  (λ w. let k = points_of bs w in (k.0, k.1, refl, k.2)),
  λ r. subst IsWtf8 r.3
      (IsWtf8-from_points r.0 r.1),
)

-- the first code point of the remainder
first_point : (b : Bool) (bs rest : List ℕ) (c : ℕ) → bs ≡ encode_utf8 c ++ rest → Rest b bs
    → (cs : List ℕ) × AreUnpaired (c ∷ cs) × ((b && is_low_surrogate c) ≡ false) × (encode_utf8_all cs ≡ rest)
first_point b bs rest c e r = by r.0 r.1 r.2 r.3
  where
    by : (cs : List ℕ) → AreUnpaired cs → (b && is_low_surrogate (slice_index cs 0)) ≡ false → encode_utf8_all cs ≡ bs
        → (cs : List ℕ) × AreUnpaired (c ∷ cs) × ((b && is_low_surrogate c) ≡ false) × (encode_utf8_all cs ≡ rest)
    by [] h a i = absurd (omega (
      arith,
      ap length (i ∙ e),
      length-append (encode_utf8 c) rest,
      length-encode c,
      (len_utf8_bounds c).0,
    ))
    by (d ∷ cs) h a i =
        let same = encode_same d c (encode_utf8_all cs) rest (i ∙ e) in (
          cs,
          subst (λ x. AreUnpaired (x ∷ cs)) same.0 h,
          subst (λ x. (b && is_low_surrogate x) ≡ false) same.0 a,
          same.1,
        )

-- the remainder after one more code point
pub rest_step : (b : Bool) (bs rest : List ℕ) (c : ℕ) → IsCodePoint c → bs ≡ encode_utf8 c ++ rest
    → (b && is_low_surrogate c) ≡ false → Rest b bs ↔ Rest (is_high_surrogate c) rest
rest_step b bs rest c top e apart = (
  (λ r. let k = first_point b bs rest c e r in (k.0, k.1.2, k.1.1, k.3)),
  (λ r. (c ∷ r.0, (top, r.2, r.1), apart, ap (λ l. encode_utf8 c ++ l) r.3 ∙ sym e)),
)

-- the bytes are no such remainder, if a trail is right after a lead
pub rest_bad : (b : Bool) (bs rest : List ℕ) (c : ℕ) → bs ≡ encode_utf8 c ++ rest → b ≡ true → is_low_surrogate c
    ≡ true → ¬ (Rest b bs)
rest_bad b bs rest c e lead trail r = let k = first_point b bs rest c e r in
    true≢false (sym (ap₂ (λ x y. x && y) lead trail) ∙ k.2)

-- the bytes are no such remainder, if they begin with no code point
pub rest_none : (b : Bool) (bs : List ℕ) → 0 < length bs → SplitsIntoNone bs → ¬ (Rest b bs)
rest_none b bs some none r = by r.0 r.1 r.3
  where
    by : (cs : List ℕ) → AreUnpaired cs → encode_utf8_all cs ≡ bs → ⊥
    by [] h i = absurd (omega (arith, ap length i))
    by (d ∷ cs) h i = none d (encode_utf8_all cs) h.0 (sym i)

-- What a meaning says of its code point.

-- a lead is a high surrogate and no low one, a trail is a low surrogate and no high one
pub lead_is : (c i : ℕ) → IsMeaningOf c (LeadSurrogate i) → (is_high_surrogate c ≡ true) × (is_low_surrogate c ≡ false)
lead_is c i h = let a = h.0 in let b = h.1 in (grind (arith, nat_tests), grind (arith, nat_tests))

pub trail_is : (c i : ℕ) → IsMeaningOf c (TrailSurrogate i) → (is_low_surrogate c ≡ true)
    × (is_high_surrogate c ≡ false)
trail_is c i h = let a = h.0 in let b = h.1 in (grind (arith, nat_tests), grind (arith, nat_tests))

scalar_is : (c : ℕ) → IsScalar c → (is_high_surrogate c ≡ false) × (is_low_surrogate c ≡ false)
scalar_is c s = ⊎_elim
    (λ (p : c < 0xD800). (grind (arith, nat_tests), grind (arith, nat_tests)))
    (λ p. let low = p.0 in (grind (arith, nat_tests), grind (arith, nat_tests))) (scalar_cases c s)

-- a meaning other than a lead is of no high surrogate, one other than a trail of no low one
pub no_lead : (c : ℕ) (m : Meaning) → IsMeaningOf c m → ((i : ℕ) → m ≢ LeadSurrogate i) → is_high_surrogate c ≡ false
no_lead c (Whole d) h other = (scalar_is c h.0).0
no_lead c (LeadSurrogate i) h other = absurd (other i refl)
no_lead c (TrailSurrogate i) h other = (trail_is c i h).1
no_lead c (Prefix k) h other = absurd h
no_lead c Suffix h other = absurd h

pub no_trail : (c : ℕ) (m : Meaning) → IsMeaningOf c m → ((i : ℕ) → m ≢ TrailSurrogate i) → is_low_surrogate c ≡ false
no_trail c (Whole d) h other = (scalar_is c h.0).1
no_trail c (LeadSurrogate i) h other = (lead_is c i h).1
no_trail c (TrailSurrogate i) h other = absurd (other i refl)
no_trail c (Prefix k) h other = absurd h
no_trail c Suffix h other = absurd h

-- One step of reading.

and_false : (b : Bool) → (b && false) ≡ false
and_false true = refl
and_false false = refl

-- the remainder gets shorter
pub after_shorter : (bytes after : List ℕ) (m : Meaning) → SplitsInto bytes m after → length after < length bytes
after_shorter bytes after m h =
    omega (arith, ap length h.2, length-append (encode_utf8 h.0) after, length-encode h.0, (len_utf8_bounds h.0).0)

-- a lead is read
pub step_lead : (b : Bool) (bytes after : List ℕ) (m : Meaning) (i : ℕ) → SplitsInto bytes m after
    → m ≡ LeadSurrogate i → Rest b bytes ↔ Rest true after
step_lead b bytes after m i h e =
    let is = lead_is h.0 i (subst (IsMeaningOf h.0) e h.3) in
    let apart : (b && is_low_surrogate h.0) ≡ false = ap (λ t. b && t) is.1 ∙ and_false b in
    let s = rest_step b bytes after h.0 h.1 h.2 apart in
    subst (λ t. Rest b bytes ↔ Rest t after) is.0 s

-- another code point is read, which is no trail after a lead
pub step_other : (b : Bool) (bytes after : List ℕ) (m : Meaning) → SplitsInto bytes m after
    → ((i : ℕ) → m ≢ LeadSurrogate i) → ((b ≡ false) ⊎ ((i : ℕ) → m ≢ TrailSurrogate i)) → Rest b bytes
    ↔ Rest false after
step_other b bytes after m h other free =
    let apart : (b && is_low_surrogate h.0) ≡ false = ⊎_elim
    (λ (no : b ≡ false). ap (λ t. t && is_low_surrogate h.0) no)
    (λ no. ap (λ t. b && t) (no_trail h.0 m h.3 no) ∙ and_false b) free in
    subst (λ t. Rest b bytes ↔ Rest t after) (no_lead h.0 m h.3 other) (rest_step b bytes after h.0 h.1 h.2 apart)

-- with a trail after a lead, the bytes aren't valid
pub step_bad : (b : Bool) (bytes after : List ℕ) (m : Meaning) (i : ℕ) → SplitsInto bytes m after → b ≡ true
    → m ≡ TrailSurrogate i → ¬ (Rest b bytes)
step_bad b bytes after m i h lead e =
    rest_bad b bytes after h.0 h.2 lead (trail_is h.0 i (subst (IsMeaningOf h.0) e h.3)).0
