-- How many bytes units add after another unit, and how many units and bytes a code point has.
use Rattle.std.proofs.Common.{◌≡◌, ℕ, ◌+◌, ◌<◌, ◌≤◌, true, false, ◌&&◌, if◌then◌else◌, List, [], ◌∷◌}
use Rattle.std.proofs.Common.{◌++◌, length, refl, sym, ap, ◌∙◌}
use Rattle.std.proofs.Common.{arith, ⊎_elim, append_assoc, length-append}
use Rattle.std.specs.List.{AllByRecursion}
use Rattle.std.specs.Char.{IsScalar, encode_utf8}
use Rattle.std.specs.Str.{all_scalars, encode_utf8_all}
use lib.Utf8.{scalar}
use Rattle.std.specs.Char.Utf16.{is_high_surrogate, is_low_surrogate, surrogate_pair_char}
use Rattle.std.specs.Char.Escape.{encode_utf16}
use Rattle.std.proofs.lemmas.Bool.{and_parts, cases_Bool, cases_lt, cond-true, cond-false}
use Rattle.std.proofs.lemmas.Bool.Decides.{nat_tests}
use Rattle.std.proofs.lemmas.Str.{length-encode, len_utf8_bounds}
use Rattle.tendril_fmt.specs.Units.{bytes_behind}
use Rattle.tendril_fmt.specs.Wtf8.{wtf8}
use Rattle.tendril_fmt.specs.Proved.Encodings.{encode_utf8_1, encode_utf8_3, encode_utf8_4}
use Rattle.tendril_fmt.specs.Proved.Units.{one_unit, two_units, pairs}
use Rattle.tendril_fmt.proofs.UnitSplits.{IsAlone}
use Rattle.tendril_fmt.proofs.Wtf8Joins.{surrogates_of}

wtf8-pair : (u v : ℕ) (us : List ℕ) → pairs u v ≡ true → wtf8 (u ∷ v ∷ us) ≡ encode_utf8 (surrogate_pair_char u v)
    ++ wtf8 us
wtf8-pair u v us meet = ap encode_utf8_all (cond-true (pairs u v) _ _ meet)

wtf8-alone : (u : ℕ) (us : List ℕ) → IsAlone u us → wtf8 (u ∷ us) ≡ encode_utf8 u ++ wtf8 us
wtf8-alone u [] h = refl
wtf8-alone u (v ∷ us) h = ap encode_utf8_all (cond-false (pairs u v) _ _ h)

length-alone : (u : ℕ) (us : List ℕ) → IsAlone u us → length (wtf8 (u ∷ us)) ≡ length (encode_utf8 u) + length (wtf8 us)
length-alone u us h = ap length (wtf8-alone u us h) ∙ length-append (encode_utf8 u) (wtf8 us)

length-one : (u : ℕ) → length (wtf8 (u ∷ [])) ≡ length (encode_utf8 u)
length-one u = length-alone u [] tt ∙ omega arith

length-pair : (u v : ℕ) (us : List ℕ) → pairs u v ≡ true → length (wtf8 (u ∷ v ∷ us)) ≡ 4 + length (wtf8 us)
length-pair u v us meet =
    let b = surrogates_of u v meet in
    let four = ap length (encode_utf8_4 (surrogate_pair_char u v) (omega arith)) in
    omega (arith, ap length (wtf8-pair u v us meet), length-append (encode_utf8 (surrogate_pair_char u v)) (wtf8 us))

-- a unit that isn't below 0x800 has three bytes
length-three : (u : ℕ) → 0x800 ≤ u → u < 0x1_0000 → length (encode_utf8 u) ≡ 3
length-three u low high = ap length (encode_utf8_3 u low high)

-- units have at least as many bytes as the first of them by itself
length-first : (u : ℕ) (us : List ℕ) → length (encode_utf8 u) ≤ length (wtf8 (u ∷ us))
length-first u [] = omega (arith, length-one u)
length-first u (v ∷ us) = ⊎_elim
    (λ meet. let b = surrogates_of u v meet in
    omega (arith, length-pair u v us meet, length-three u (omega arith) (omega arith)))
    (λ apart. omega (arith, length-alone u (v ∷ us) apart))
    (cases_Bool (pairs u v))

trail_alone : (v : ℕ) (us : List ℕ) → 0xDC00 ≤ v → IsAlone v us
trail_alone v [] h = tt
trail_alone v (w ∷ us) h = grind (arith, nat_tests)

pub bytes_behind-cons : (last u : ℕ) (us : List ℕ) → bytes_behind last (u ∷ us)
    ≡ (if pairs last u then 1 else length (encode_utf8 u)) + bytes_behind u us
bytes_behind-cons last u us = ⊎_elim
    (λ meet.
    let b = surrogates_of last u meet in
    let rest = length-alone u us (trail_alone u us (omega arith)) in
    let all = length-pair last u us meet in
    let first = length-three last (omega arith) (omega arith) in
    let second = length-three u (omega arith) (omega arith) in
    let one = cond-true (pairs last u) 1 (length (encode_utf8 u)) meet in
    omega (arith, rest, all, first, second, one, length-one last, length-one u))
    (λ apart.
    let all = length-alone last (u ∷ us) apart in
    let one = cond-false (pairs last u) 1 (length (encode_utf8 u)) apart in
    omega (arith, all, one, length-one last, length-one u, length-first u us))
    (cases_Bool (pairs last u))

pub bytes_behind-nil : (last : ℕ) → bytes_behind last [] ≡ 0
bytes_behind-nil last = omega arith

-- after the unit 0, which isn't a lead, units add as many bytes as they have by themselves
pub bytes_behind-zero : (us : List ℕ) → bytes_behind 0 us ≡ length (wtf8 us)
bytes_behind-zero [] = bytes_behind-nil 0
bytes_behind-zero (v ∷ us) = omega (arith, length-alone 0 (v ∷ us) refl, length-one 0)

-- a code point has no more units than bytes
pub utf16_fits : (c : ℕ) → length (encode_utf16 c) ≤ length (encode_utf8 c)
utf16_fits c = ⊎_elim
    (λ low. omega (arith, ap length (one_unit c low), length-encode c, len_utf8_bounds c))
    (λ high. omega (arith, ap length (two_units c high), ap length (encode_utf8_4 c high)))
    (cases_lt c 0x1_0000)

-- the WTF-8 of ASCII units is these units, whatever follows
pub wtf8-ascii : (front rest : List ℕ) → AllByRecursion (λ u. u < 0x80) front → wtf8 (front ++ rest)
    ≡ front ++ wtf8 rest
wtf8-ascii [] rest h = refl
wtf8-ascii (u ∷ front) rest h =
    wtf8-alone u (front ++ rest) (alone (front ++ rest)) ∙ ap (λ l. l ++ wtf8 (front ++ rest)) (encode_utf8_1 u h.0)
    ∙ ap (λ l. u ∷ l) (wtf8-ascii front rest h.1)
  where
    low : u < 0x80
    low = h.0

    alone : (us : List ℕ) → IsAlone u us
    alone [] = tt
    alone (v ∷ us) = grind (arith, nat_tests, low)

not_high : (u : ℕ) → IsScalar u → is_high_surrogate u ≡ false
not_high u e = grind (arith, nat_tests)

-- the WTF-8 of characters is their UTF-8, whatever follows
pub wtf8-scalars : (front rest : List ℕ) → all_scalars front ≡ true → wtf8 (front ++ rest)
    ≡ encode_utf8_all front ++ wtf8 rest
wtf8-scalars [] rest h = refl
wtf8-scalars (u ∷ front) rest h =
    let both = and_parts (scalar u) (all_scalars front) h in
    wtf8-alone u (front ++ rest) (alone (not_high u both.0) (front ++ rest))
    ∙ ap (λ l. encode_utf8 u ++ l) (wtf8-scalars front rest both.1)
    ∙ sym (append_assoc (encode_utf8 u) (encode_utf8_all front) (wtf8 rest))
  where
    alone : is_high_surrogate u ≡ false → (us : List ℕ) → IsAlone u us
    alone e [] = tt
    alone e (v ∷ us) = ap (λ b. b && is_low_surrogate v) e

-- a block of ASCII adds a byte for each of its units, whatever is before it
pub bytes_behind-ascii : (last : ℕ) (all front rest : List ℕ) → AllByRecursion (λ u. u < 0x80) front
    → length front ≡ 16 → all ≡ front ++ rest → bytes_behind last all ≡ 16 + bytes_behind 0 rest
bytes_behind-ascii last all [] rest h long is = absurd (omega arith)
bytes_behind-ascii last all (u ∷ front) rest h long is =
    let low : u < 0x80 = h.0 in
    let apart : pairs last u ≡ false = grind (arith, nat_tests) in
    ap (bytes_behind last) is
    ∙ omega (
      arith,
      length-alone last (u ∷ (front ++ rest)) apart,
      length-one last,
      ap length (wtf8-ascii (u ∷ front) rest h),
      length-append (u ∷ front) (wtf8 rest),
      bytes_behind-zero rest,
      long,
    )
