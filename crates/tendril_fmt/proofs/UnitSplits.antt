-- Code points split off valid WTF-8, with the units of each, and off units, with the bytes of each.
use Rattle.std.proofs.Common.{◌≡◌, ℕ, suc, ◌+◌, ◌-◌, ◌*◌, ◌^◌, ◌<◌, ◌≤◌, true, false, List, [], ◌∷◌, ◌++◌, length}
use Rattle.std.proofs.Common.{drop, flat_map, slice_index, Option, None, refl, sym, ap, ap₂, subst, ◌∙◌, arith, ⊎_elim}
use Rattle.std.proofs.Common.{take, length-append, ◌/◌, eq-eqb, ne_eqb}
use Rattle.std.specs.List.{AllByRecursion}
use Rattle.std.specs.Char.{encode_utf8, len_utf8}
use Rattle.std.specs.Str.{encode_utf8_all}
use Rattle.std.specs.Char.Utf16.{surrogate_pair_char}
use Rattle.std.specs.Char.Escape.{encode_utf16}
use Rattle.std.proofs.lemmas.Bool.{cases_Bool, cond-true, cond-false}
use Rattle.std.proofs.lemmas.Bool.Decides.{nat_tests}
use Rattle.std.proofs.lemmas.Str.{chars-nil, length-encode, len_utf8_bounds}
use Rattle.tendril_fmt.specs.CodePoints.{IsContinuation}
use Rattle.tendril_fmt.specs.Units.{units_left, SplitsText, SplitsUnits, code_of_two, code_of_three, code_of_four}
use Rattle.tendril_fmt.specs.Units.{continues}
use Rattle.tendril_fmt.specs.Wtf8.{IsUnit, IsWtf8, units, wtf8}
use Rattle.tendril_fmt.specs.Proved.Encodings.{Shape, of1, of2, of3, of4, point_shape}
use Rattle.tendril_fmt.specs.Proved.Units.{pairs, IsWtf8-from_points, points_of}
use Rattle.tendril_fmt.specs.Proved.Unpaired.{AreUnpaired}
use Rattle.tendril_fmt.proofs.Seams.{rest_slice}
use Rattle.tendril_fmt.proofs.Wtf8Joins.{surrogates_of, units_of}

-- the WTF-8 of one unit has at most three bytes
small_len : (u : ℕ) → u < 0x1_0000 → len_utf8 u ≤ 3
small_len u h = grind (arith, nat_tests)

-- the remainder after the first code point
SplitsText-cons : (c : ℕ) (cs : List ℕ) → AreUnpaired (c ∷ cs)
    → SplitsText (encode_utf8_all (c ∷ cs)) c (encode_utf8_all cs)
SplitsText-cons c cs h = record {
  point = h.0;
  split = refl;
  spelt = units_of (c ∷ cs) h ∙ ap (λ us. encode_utf16 c ++ us) (sym (units_of cs h.2));
  rest_valid = IsWtf8-from_points cs h.2;
}

-- valid bytes that aren't empty begin with a code point
pub split_first : (bytes : List ℕ) → IsWtf8 bytes → 0 < length bytes → (c : ℕ) × (rest : List ℕ)
    × SplitsText bytes c rest
split_first bytes w some = let k = points_of bytes w in by k.0 k.1 k.2
  where
    by : (cs : List ℕ) → AreUnpaired cs → encode_utf8_all cs ≡ bytes → (c : ℕ) × (rest : List ℕ)
        × SplitsText bytes c rest
    by [] h e = absurd (omega (arith, ap length e))
    by (c ∷ cs) h e = (
      c,
      encode_utf8_all cs,
      subst (λ (b : List ℕ). SplitsText b c (encode_utf8_all cs)) e
          (SplitsText-cons c cs h),
    )

-- `SplitsAt`: valid bytes begin with a code point of `count` bytes, which is `code`. `First`: what the first byte of
-- valid bytes decides. The bytes begin a, b, d, e, as far as there are so many.
pub record SplitsAt (bytes : List ℕ) (code count : ℕ) : Type 0 where
  pub within : count ≤ length bytes
  pub splits : SplitsText bytes code (take (length bytes - count) (drop count bytes))

splits_at : (bytes : List ℕ) (code count : ℕ) → count ≤ length bytes → SplitsText bytes code (drop count bytes)
    → SplitsAt bytes code count
splits_at bytes code count within h =
    record {
      within = within;
      splits = subst (λ (rest : List ℕ). SplitsText bytes code rest)
          (sym (rest_slice bytes count)) h;
    }

pub record First (bytes : List ℕ) (a b d e : ℕ) : Type 0 where
  pub begins : continues a ≡ false
  pub second_continues : 0x80 ≤ a → continues b ≡ true
  pub third_continues : 0xE0 ≤ a → continues d ≡ true
  pub one : a < 0x80 → SplitsAt bytes a 1
  pub lead : 0x80 ≤ a → 0xC0 ≤ a
  pub second : 0x80 ≤ a → 2 ≤ length bytes
  pub two : 0x80 ≤ a → a < 0xE0 → SplitsAt bytes (code_of_two a b) 2
  pub third : 0xE0 ≤ a → 3 ≤ length bytes
  pub three : 0xE0 ≤ a → a < 0xF0 → SplitsAt bytes (code_of_three a b d) 3
  pub fourth : 0xF0 ≤ a → 4 ≤ length bytes
  pub four : 0xF0 ≤ a → SplitsAt bytes (code_of_four a b d e) 4
  pub far : 0xF0 ≤ a → 0x1_0000 ≤ code_of_four a b d e

continues_from : (b : ℕ) → IsContinuation b → continues b ≡ true
continues_from b h = eq-eqb (b / 64) 2 (omega (arith, h.0, h.1))

begins_from : (a : ℕ) → (a / 64 ≡ 2 → ⊥) → continues a ≡ false
begins_from a other = ne_eqb (a / 64) 2 other

of_one : (a : ℕ) (rest : List ℕ) (b d e : ℕ) → a < 128 → SplitsText (a ∷ rest) a rest → First (a ∷ rest) a b d e
of_one a rest b d e low h = record {
  begins = begins_from a (λ e. omega arith);
  second_continues = λ high. absurd (omega arith);
  third_continues = λ high. absurd (omega arith);
  one = λ _. splits_at (a ∷ rest) a 1 (omega arith) h;
  lead = λ high. absurd (omega arith);
  second = λ high. absurd (omega arith);
  two = λ high. absurd (omega arith);
  third = λ high. absurd (omega arith);
  three = λ high. absurd (omega arith);
  fourth = λ high. absurd (omega arith);
  four = λ high. absurd (omega arith);
  far = λ high. absurd (omega arith);
}

of_two : (a b c : ℕ) (rest : List ℕ) (d e : ℕ) → 194 ≤ a → a < 224 → IsContinuation b → c + 12416 ≡ a * 64 + b
    → SplitsText (a ∷ b ∷ rest) c rest → First (a ∷ b ∷ rest) a b d e
of_two a b c rest d e l m f s h = let low = f.0 in record {
  begins = begins_from a (λ e. omega arith);
  second_continues = λ _. continues_from b f;
  third_continues = λ high. absurd (omega arith);
  one = λ under. absurd (omega arith);
  lead = λ _. omega arith;
  second = λ _. omega arith;
  two = λ _ _. splits_at (a ∷ b ∷ rest) _ 2 (omega arith)
      (subst (λ c. SplitsText (a ∷ b ∷ rest) c rest) (omega arith) h);
  third = λ high. absurd (omega arith);
  three = λ high. absurd (omega arith);
  fourth = λ high. absurd (omega arith);
  four = λ high. absurd (omega arith);
  far = λ high. absurd (omega arith);
}

of_three : (a b d c : ℕ) (rest : List ℕ) (e : ℕ) → 224 ≤ a → a < 240 → IsContinuation b → IsContinuation d
    → c + 925824 ≡ a * 4096 + b * 64 + d → SplitsText (a ∷ b ∷ d ∷ rest) c rest → First (a ∷ b ∷ d ∷ rest) a b d e
of_three a b d c rest e l m f g s h = let low = f.0 in let last = g.0 in record {
  begins = begins_from a (λ e. omega arith);
  second_continues = λ _. continues_from b f;
  third_continues = λ _. continues_from d g;
  one = λ under. absurd (omega arith);
  lead = λ _. omega arith;
  second = λ _. omega arith;
  two = λ _ under. absurd (omega arith);
  third = λ _. omega arith;
  three = λ _ _. splits_at (a ∷ b ∷ d ∷ rest) _ 3 (omega arith)
      (subst (λ c. SplitsText (a ∷ b ∷ d ∷ rest) c rest) (omega arith) h);
  fourth = λ high. absurd (omega arith);
  four = λ high. absurd (omega arith);
  far = λ high. absurd (omega arith);
}

of_four : (a b d e c : ℕ) (rest : List ℕ) → 240 ≤ a → IsContinuation b → IsContinuation d → IsContinuation e
    → c + 63447168 ≡ a * 262144 + b * 4096 + d * 64 + e → 65536 ≤ c → SplitsText (a ∷ b ∷ d ∷ e ∷ rest) c rest
    → First (a ∷ b ∷ d ∷ e ∷ rest) a b d e
of_four a b d e c rest l f g k s u h = let low = f.0 in let middle = g.0 in let last = k.0 in record {
  begins = begins_from a (λ e. omega arith);
  second_continues = λ _. continues_from b f;
  third_continues = λ _. continues_from d g;
  one = λ under. absurd (omega arith);
  lead = λ _. omega arith;
  second = λ _. omega arith;
  two = λ _ under. absurd (omega arith);
  third = λ _. omega arith;
  three = λ _ under. absurd (omega arith);
  fourth = λ _. omega arith;
  four = λ _. splits_at (a ∷ b ∷ d ∷ e ∷ rest) _ 4 (omega arith)
      (subst (λ c. SplitsText (a ∷ b ∷ d ∷ e ∷ rest) c rest) (omega arith) h);
  far = λ _. omega arith;
}

abbrev FirstOf : List ℕ → Type 0
FirstOf bytes = First bytes (slice_index bytes 0) (slice_index bytes 1) (slice_index bytes 2) (slice_index bytes 3)

pub First-holds : (bytes : List ℕ) → IsWtf8 bytes → 0 < length bytes
    → First bytes (slice_index bytes 0) (slice_index bytes 1) (slice_index bytes 2) (slice_index bytes 3)
First-holds bytes w some = let k = split_first bytes w some in by k.0 k.1 k.2 (point_shape k.0 k.2.point)
  where
    by : (c : ℕ) (rest : List ℕ) → SplitsText bytes c rest → Shape c → FirstOf bytes
    by c rest h (of1 low e) =
        let is : bytes ≡ c ∷ rest = h.split ∙ ap (λ l. l ++ rest) e in
        subst FirstOf (sym is) (of_one c rest _ _ _ low (subst (λ (bs : List ℕ). SplitsText bs c rest) is h))
    by c rest h (of2 a b l m f s e) =
        let is : bytes ≡ a ∷ b ∷ rest = h.split ∙ ap (λ l. l ++ rest) e in
        subst FirstOf (sym is) (of_two a b c rest _ _ l m f s (subst (λ (bs : List ℕ). SplitsText bs c rest) is h))
    by c rest h (of3 a b d l m f g s u e) =
        let is : bytes ≡ a ∷ b ∷ d ∷ rest = h.split ∙ ap (λ l. l ++ rest) e in
        subst FirstOf (sym is) (of_three a b d c rest _ l m f g s (subst (λ (bs : List ℕ). SplitsText bs c rest) is h))
    by c rest h (of4 a b d x l m f g k s u e) =
        let is : bytes ≡ a ∷ b ∷ d ∷ x ∷ rest = h.split ∙ ap (λ l. l ++ rest) e in
        subst FirstOf (sym is) (of_four a b d x c rest l f g k s u (subst (λ (bs : List ℕ). SplitsText bs c rest) is h))

-- Code points split off units, with the bytes of each.

pub SplitsUnits-pair : (u v : ℕ) (rest : List ℕ) → pairs u v ≡ true
    → SplitsUnits (u ∷ v ∷ rest) (surrogate_pair_char u v) rest
SplitsUnits-pair u v rest meet =
    let b = surrogates_of u v meet in
    record { point = omega arith; spelt = ap encode_utf8_all (cond-true (pairs u v) _ _ meet); shorter = omega arith }

-- no trail follows the unit u, if it is a lead
abbrev pub IsAlone : ℕ → List ℕ → Type 0
IsAlone u [] = Unit {0}
IsAlone u (v ∷ us) = pairs u v ≡ false

pub SplitsUnits-alone : (u : ℕ) (rest : List ℕ) → u < 0x1_0000 → IsAlone u rest → SplitsUnits (u ∷ rest) u rest
SplitsUnits-alone u [] low h = record { point = omega arith; spelt = refl; shorter = omega arith }
SplitsUnits-alone u (v ∷ us) low h =
    record { point = omega arith; spelt = ap encode_utf8_all (cond-false (pairs u v) _ _ h); shorter = omega arith }

-- each unit has at most three bytes
pub length-wtf8 : (us : List ℕ) → AllByRecursion IsUnit us → length (wtf8 us) ≤ 3 * length us
length-wtf8 [] h = omega arith
length-wtf8 (u ∷ []) h = omega (arith, length-append (encode_utf8 u) [], length-encode u, small_len u h.0)
length-wtf8 (u ∷ v ∷ us) h = ⊎_elim
    (λ meet. omega (
      arith,
      ap length (SplitsUnits-pair u v us meet).spelt,
      length-append
          (encode_utf8 (surrogate_pair_char u v)) (wtf8 us),
      length-encode (surrogate_pair_char u v),
      len_utf8_bounds
          (surrogate_pair_char u v),
      length-wtf8 us h.1.1,
    ))
    (λ apart. omega (
      arith,
      ap length (SplitsUnits-alone u (v ∷ us) h.0 apart).spelt,
      length-append (encode_utf8 u)
          (wtf8 (v ∷ us)),
      length-encode u,
      small_len u h.0,
      length-wtf8 (v ∷ us) h.1,
    ))
    (cases_Bool (pairs u v))

pub AreUnits-slice : (us : List ℕ) → ((k : ℕ) → slice_index us k < 2 ^ 16) → AllByRecursion IsUnit us
AreUnits-slice [] h = tt
AreUnits-slice (u ∷ us) h = (h 0, AreUnits-slice us (λ k. h (suc k)))

-- no bytes have no units
pub units-nil : (bytes : List ℕ) → bytes ≡ [] → units bytes ≡ []
units-nil bytes empty = ap units empty ∙ ap (flat_map encode_utf16) chars-nil

-- no units remain, if there are no bytes and no trail
pub units_left-none : (trail : Option ℕ) (bytes : List ℕ) → trail ≡ None → bytes ≡ [] → units_left trail bytes ≡ []
units_left-none trail bytes none empty = ap₂ units_left none empty ∙ units-nil [] refl
