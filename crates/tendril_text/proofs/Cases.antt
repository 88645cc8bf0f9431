-- Converting ASCII letters to lowercase keeps UTF-8 valid.
use Rattle.std.proofs.Common.{◌≡◌, ℕ, ◌≤◌, ◌&&◌, List, [], ◌∷◌, ◌++◌, map, encode_utf8, encode_utf8_all, IsUtf8, refl}
use Rattle.std.proofs.Common.{sym, ap, ap₂, ◌∙◌, arith, ⊎_elim}
use Rattle.std.proofs.lemmas.Bool.{cases_lt}
use Rattle.std.proofs.lemmas.Bool.Decides.{nat_tests}
use Rattle.std.proofs.lemmas.List.{map-append}
use Rattle.std.proofs.lemmas.Str.Ascii.{lowercase_ascii}
use Rattle.std.specs.Char.{to_ascii_lowercase}
use Rattle.tendril_fmt.specs.Proved.Encodings.{encode_utf8_1, encode_utf8_2, encode_utf8_3, encode_utf8_4}
use lib.Utf8.{scalar, scalars, low_scalar}

-- a byte past ASCII doesn't change
pub lower_high : (b : ℕ) → 128 ≤ b → to_ascii_lowercase b ≡ b
lower_high b h = grind (arith, nat_tests)

high-encode : (c : ℕ) → 128 ≤ c → map to_ascii_lowercase (encode_utf8 c) ≡ encode_utf8 c
high-encode c h = ⊎_elim
    (λ two. let e = encode_utf8_2 c h two in
    ap (map to_ascii_lowercase) e ∙ ap₂ ◌∷◌ (lower_high _ (omega arith)) (ap₂ ◌∷◌ (lower_high _ (omega arith)) refl)
    ∙ sym e)
    (λ more. ⊎_elim
    (λ three. let e = encode_utf8_3 c more three in
    ap (map to_ascii_lowercase) e ∙ ap₂ ◌∷◌ (lower_high _ (omega arith))
    (ap₂ ◌∷◌ (lower_high _ (omega arith)) (ap₂ ◌∷◌ (lower_high _ (omega arith)) refl)) ∙ sym e)
    (λ four. let e = encode_utf8_4 c four in
    ap (map to_ascii_lowercase) e ∙ ap₂ ◌∷◌ (lower_high _ (omega arith))
    (ap₂ ◌∷◌ (lower_high _ (omega arith))
    (ap₂ ◌∷◌ (lower_high _ (omega arith)) (ap₂ ◌∷◌ (lower_high _ (omega arith)) refl))) ∙ sym e)
    (cases_lt c 65536))
    (cases_lt c 2048)

-- the bytes of a character
lower-encode : (c : ℕ) → map to_ascii_lowercase (encode_utf8 c) ≡ encode_utf8 (to_ascii_lowercase c)
lower-encode c = ⊎_elim
    (λ low. ap (map to_ascii_lowercase) (encode_utf8_1 c low)
    ∙ sym (encode_utf8_1 (to_ascii_lowercase c) (lowercase_ascii c low)))
    (λ high. high-encode c high ∙ ap encode_utf8 (sym (lower_high c high)))
    (cases_lt c 128)

lower-encode_all : (cs : List ℕ) → map to_ascii_lowercase (encode_utf8_all cs)
    ≡ encode_utf8_all (map to_ascii_lowercase cs)
lower-encode_all [] = refl
lower-encode_all (c ∷ cs) = map-append to_ascii_lowercase (encode_utf8 c) (encode_utf8_all cs)
    ∙ ap₂ (λ x y. x ++ y) (lower-encode c) (lower-encode_all cs)

lower_scalar : (c : ℕ) → scalar c ≡ scalar (to_ascii_lowercase c)
lower_scalar c = ⊎_elim
    (λ low. low_scalar c (omega (arith, low))
    ∙ sym (low_scalar (to_ascii_lowercase c) (omega (arith, lowercase_ascii c low))))
    (λ high. ap scalar (sym (lower_high c high)))
    (cases_lt c 128)

lower_scalars : (cs : List ℕ) → scalars cs ≡ scalars (map to_ascii_lowercase cs)
lower_scalars [] = refl
lower_scalars (c ∷ cs) = ap₂ (λ x y. x && y) (lower_scalar c) (lower_scalars cs)

-- the bytes of a text
pub IsUtf8-lower : (bytes : List ℕ) → IsUtf8 bytes → IsUtf8 (map to_ascii_lowercase bytes)
IsUtf8-lower bytes h = (
  map to_ascii_lowercase h.0,
  (sym (lower_scalars h.0) ∙ h.1.0, sym (lower-encode_all h.0) ∙ ap (map to_ascii_lowercase) h.1.1),
)
