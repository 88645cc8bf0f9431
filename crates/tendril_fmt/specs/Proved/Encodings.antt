-- The encoding of every code point, surrogates too; the bytes determine the code point.
use Rattle.std.proofs.Common.{
  ◌≡◌,
  ◌⊎◌,
  ℕ,
  zero,
  suc,
  ◌+◌,
  ◌-◌,
  ◌*◌,
  ◌/◌,
  ◌%◌,
  ◌<◌,
  ◌≤◌,
  List,
  [],
  ◌∷◌,
  ◌++◌,
  refl,
  sym,
  ap,
  ◌∙◌,
  arith,
  inl,
  inr,
  ⊎_elim,
  append_assoc,
  append-nil,
}
use Rattle.std.specs.List.{AllByRecursion}
use Rattle.std.specs.Str.{chars, chars_after, continuation_len, lead_bits, encode_utf8_all}
use Rattle.std.specs.Char.{encode_utf8, IsScalar}
use lib.Utf8.{scalar_cases}
use Rattle.std.proofs.lemmas.Bool.{cases_lt, cond-true, cond-false}
use Rattle.std.proofs.lemmas.Bool.Decides.{nat_tests}
use Rattle.std.specs.Prelude.{nat_lt, true, false}
use Rattle.std.proofs.lemmas.Str.{chars-nil}
use Rattle.tendril_fmt.specs.CodePoints.{IsCodePoint, IsContinuation}

-- a term with its type, where a tactic needs to know it
abbrev by : (A : Type 0) → A → A
by A a = a

-- `encode_utf8` in each range
pub encode_utf8_1 : (c : ℕ) → c < 128 → encode_utf8 c ≡ c ∷ []
unfolding encode_utf8
encode_utf8_1 c h = cond-true _ _ _ (by (nat_lt c 128 ≡ true) (grind (arith, nat_tests)))

pub encode_utf8_2 : (c : ℕ) → 128 ≤ c → c < 2048 → encode_utf8 c ≡ (192 + c / 64) ∷ (128 + c % 64) ∷ []
unfolding encode_utf8
encode_utf8_2 c l h =
    cond-false _ _ _ (by (nat_lt c 128 ≡ false) (grind (arith, nat_tests))) ∙ cond-true _ _ _
    (by (nat_lt c 2048 ≡ true) (grind (arith, nat_tests)))

pub encode_utf8_3 : (c : ℕ) → 2048 ≤ c → c < 65536
    → encode_utf8 c ≡ (224 + c / 4096) ∷ (128 + (c / 64) % 64) ∷ (128 + c % 64) ∷ []
unfolding encode_utf8
encode_utf8_3 c l h =
    cond-false _ _ _ (by (nat_lt c 128 ≡ false) (grind (arith, nat_tests))) ∙ cond-false _ _ _
    (by (nat_lt c 2048 ≡ false) (grind (arith, nat_tests)))
    ∙ cond-true _ _ _ (by (nat_lt c 65536 ≡ true) (grind (arith, nat_tests)))

pub encode_utf8_4 : (c : ℕ) → 65536 ≤ c
    → encode_utf8 c ≡ (240 + c / 262144) ∷ (128 + (c / 4096) % 64) ∷ (128 + (c / 64) % 64) ∷ (128 + c % 64) ∷ []
unfolding encode_utf8
encode_utf8_4 c l =
    cond-false _ _ _ (by (nat_lt c 128 ≡ false) (grind (arith, nat_tests))) ∙ cond-false _ _ _
    (by (nat_lt c 2048 ≡ false) (grind (arith, nat_tests)))
    ∙ cond-false _ _ _ (by (nat_lt c 65536 ≡ false) (grind (arith, nat_tests)))

-- the encoding of a code point, by its length
pub data Shape (c : ℕ) : Type 0 where
  of1 : c < 128 → encode_utf8 c ≡ c ∷ [] → Shape c
  of2 : (a b : ℕ) → 194 ≤ a → a < 224 → IsContinuation b → c + 12416 ≡ a * 64 + b → encode_utf8 c ≡ a ∷ b ∷ [] → Shape c
  of3 : (a b d : ℕ) → 224 ≤ a → a < 240 → IsContinuation b → IsContinuation d → c + 925824 ≡ a * 4096 + b * 64 + d
      → 2048 ≤ c → encode_utf8 c ≡ a ∷ b ∷ d ∷ [] → Shape c
  of4 : (a b d e : ℕ) → 240 ≤ a → a < 245 → IsContinuation b → IsContinuation d → IsContinuation e
      → c + 63447168 ≡ a * 262144 + b * 4096 + d * 64 + e → 65536 ≤ c → encode_utf8 c ≡ a ∷ b ∷ d ∷ e ∷ [] → Shape c

-- each code point has one of these four lengths
pub point_shape : (c : ℕ) → IsCodePoint c → Shape c
point_shape c top = cases (cases_lt c 128) (cases_lt c 2048) (cases_lt c 65536)
  where
    cases : (c < 128) ⊎ (128 ≤ c) → (c < 2048) ⊎ (2048 ≤ c) → (c < 65536) ⊎ (65536 ≤ c) → Shape c
    cases (inl h) _ _ = of1 h (encode_utf8_1 c h)
    cases (inr l) (inl h) _ =
        of2 _ _ (omega arith) (omega arith) (omega arith, omega arith) (omega arith) (encode_utf8_2 c l h)
    cases (inr _) (inr l) (inl h) =
        of3 _ _ _ (omega arith) (omega arith) (omega arith, omega arith) (omega arith, omega arith) (omega arith) l
        (encode_utf8_3 c l h)
    cases (inr _) (inr _) (inr l) =
        of4 _ _ _ _ (omega arith) (omega arith) (omega arith, omega arith) (omega arith, omega arith)
        (omega arith, omega arith) (omega arith) l (encode_utf8_4 c l)

whole : (c : ℕ) (bs : List ℕ) → chars_after zero c bs ≡ c ∷ chars bs
unfolding chars
whole c [] = refl
whole c (b ∷ bs) = refl

led : (a n v : ℕ) (bs : List ℕ) → n ≡ continuation_len a → v ≡ lead_bits a → chars (a ∷ bs) ≡ chars_after n v bs
unfolding chars
led a n v bs p q = λ i. chars_after (sym p i) (sym q i) bs

reads : (c : ℕ) (rest : List ℕ) → Shape c → chars (encode_utf8 c ++ rest) ≡ c ∷ chars rest
reads c rest (of1 h e) = ap (λ p. chars (p ++ rest)) e ∙ led c zero c rest (grind arith) (grind arith) ∙ whole c rest
reads c rest (of2 a b l h f s e) =
    let is : (a - 192) * 64 + (b - 128) ≡ c = omega (arith, f.0) in
    ap (λ p. chars (p ++ rest)) e
    ∙ led a (suc zero) (a - 192) (b ∷ rest) (grind arith) (grind arith)
    ∙ whole _ rest ∙ ap (λ x. x ∷ chars rest) is
reads c rest (of3 a b d l h f g s m e) =
    let is : ((a - 224) * 64 + (b - 128)) * 64 + (d - 128) ≡ c = omega (arith, f.0, g.0) in
    ap (λ p. chars (p ++ rest)) e
    ∙ led a (suc (suc zero)) (a - 224) (b ∷ d ∷ rest) (grind arith) (grind arith)
    ∙ whole _ rest ∙ ap (λ x. x ∷ chars rest) is
reads c rest (of4 a b d x l h f g k s m e) =
    let is : (((a - 240) * 64 + (b - 128)) * 64 + (d - 128)) * 64 + (x - 128) ≡ c = omega (arith, f.0, g.0, k.0) in
    ap (λ p. chars (p ++ rest)) e
    ∙ led a (suc (suc (suc zero))) (a - 240) (b ∷ d ∷ x ∷ rest) (grind arith) (grind arith)
    ∙ whole _ rest ∙ ap (λ y. y ∷ chars rest) is

-- `chars` decodes the code points that bytes begin with, whatever follows
pub chars-front : (cs rest : List ℕ) → AllByRecursion IsCodePoint cs
    → chars (encode_utf8_all cs ++ rest) ≡ cs ++ chars rest
chars-front [] rest h = refl
chars-front (c ∷ cs) rest h =
    ap chars (append_assoc (encode_utf8 c) (encode_utf8_all cs) rest) ∙ reads c (encode_utf8_all cs ++ rest)
    (point_shape c h.0) ∙ ap (λ l. c ∷ l) (chars-front cs rest h.1)

-- `chars` decodes what was encoded
pub chars-code_points : (cs : List ℕ) → AllByRecursion IsCodePoint cs → chars (encode_utf8_all cs) ≡ cs
chars-code_points cs h =
    ap chars (sym (append-nil (encode_utf8_all cs))) ∙ chars-front cs [] h ∙ ap (λ l. cs ++ l) chars-nil ∙ append-nil cs

-- a code point that is no surrogate is a scalar, and a scalar is a code point
pub IsScalar-from_bounds : (c : ℕ) → (c < 0xD800) ⊎ ((0xE000 ≤ c) × (c < 0x11_0000)) → IsScalar c
IsScalar-from_bounds c r =
    ⊎_elim (λ p. grind (arith, nat_tests)) (λ p. let q = p.0 in let t = p.1 in grind (arith, nat_tests)) r

pub IsCodePoint-scalar : (c : ℕ) → IsScalar c → IsCodePoint c
IsCodePoint-scalar c s = ⊎_elim (λ h. omega arith) (λ h. omega (arith, h.1)) (scalar_cases c s)
