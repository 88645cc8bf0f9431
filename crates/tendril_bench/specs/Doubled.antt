-- ASCII with each byte twice, and the laws of this format.
use Rattle.std.proofs.Common.{◌≡◌, ℕ, ◌<◌, List, [], ◌∷◌, ◌++◌, refl, sym, ap, subst, ◌∙◌, arith}
use Rattle.std.specs.List.{All, AllByRecursion}
use Rattle.std.proofs.lemmas.List.Concat.{flat_map-append}
use Rattle.std.proofs.lemmas.List.Elements.{All-from_recursion}
use Rattle.tendril.specs.Fmt.Bytes.{AreBytes}
use Rattle.tendril.specs.Fmt.Proved.Bytes.{AreBytes-nil, AreBytes-cons}
use Rattle.tendril.specs.Fmt.Chars.{encodings, AreTextsOf}

-- a byte twice
abbrev pub twice : ℕ → List ℕ
twice c = c ∷ c ∷ []

-- the list is characters of ASCII
abbrev pub AreAscii : List ℕ → Type 0
AreAscii cs = AllByRecursion (λ c. c < 128) cs

-- the bytes are characters of ASCII, each twice
abbrev pub IsDoubled : List ℕ → Type 0
IsDoubled bytes = (cs : List ℕ) × AreAscii cs × (encodings twice cs ≡ bytes)

-- every other byte, from the first
abbrev pub firsts : List ℕ → List ℕ
firsts [] = []
firsts (a ∷ []) = []
firsts (a ∷ b ∷ bytes) = a ∷ firsts bytes

pub IsDoubled-nil : IsDoubled []
IsDoubled-nil = ([], tt, refl)

AreAscii-append : (cs ds : List ℕ) → AreAscii cs → AreAscii ds → AreAscii (cs ++ ds)
AreAscii-append [] ds h k = k
AreAscii-append (c ∷ cs) ds h k = (h.0, AreAscii-append cs ds h.1 k)

AreAscii-parts : (cs ds : List ℕ) → AreAscii (cs ++ ds) → AreAscii cs × AreAscii ds
AreAscii-parts [] ds h = (tt, h)
AreAscii-parts (c ∷ cs) ds h = let k = AreAscii-parts cs ds h.1 in ((h.0, k.0), k.1)

pub IsDoubled-append : (l r : List ℕ) → IsDoubled l → IsDoubled r → IsDoubled (l ++ r)
IsDoubled-append l r h k = (
  h.0 ++ k.0,
  AreAscii-append h.0 k.0 h.1 k.1,
  flat_map-append twice h.0 k.0 ∙ ap (λ x. x ++ encodings twice k.0) h.2 ∙ ap (λ x. l ++ x) k.2,
)

AreBytes-encodings : (cs : List ℕ) → AreAscii cs → AreBytes (encodings twice cs)
AreBytes-encodings [] h = AreBytes-nil
AreBytes-encodings (c ∷ cs) h =
    let byte : c < 256 = omega (arith, h.0) in
    let rest = AreBytes-encodings cs h.1 in
    AreBytes-cons c (c ∷ encodings twice cs) byte (AreBytes-cons c (encodings twice cs) byte rest)

pub AreBytes-doubled : (bytes : List ℕ) → IsDoubled bytes → AreBytes bytes
AreBytes-doubled bytes w = subst AreBytes w.2 (AreBytes-encodings w.0 w.1)

pub IsDoubled-twice : (c : ℕ) → c < 128 → IsDoubled (twice c)
IsDoubled-twice c h = (c ∷ [], (h, tt), refl)

-- `firsts` gives the characters that were doubled
pub firsts-encodings : (cs : List ℕ) → firsts (encodings twice cs) ≡ cs
firsts-encodings [] = refl
firsts-encodings (c ∷ cs) = ap (λ l. c ∷ l) (firsts-encodings cs)

characters : (bytes : List ℕ) (w : IsDoubled bytes) → firsts bytes ≡ w.0
characters bytes w = ap firsts (sym w.2) ∙ firsts-encodings w.0

pub firsts-spell : (bytes : List ℕ) → IsDoubled bytes → bytes ≡ encodings twice (firsts bytes)
firsts-spell bytes w = sym w.2 ∙ ap (encodings twice) (sym (characters bytes w))

pub All-doubled : (bytes : List ℕ) → IsDoubled bytes → All (λ c. c < 128) (firsts bytes)
All-doubled bytes w = All-from_recursion (λ c. c < 128) (firsts bytes) (subst AreAscii (sym (characters bytes w)) w.1)

pub AreTextsOf-doubled : (bytes cs ds : List ℕ) → IsDoubled bytes → firsts bytes ≡ cs ++ ds
    → AreTextsOf IsDoubled firsts twice cs ds
AreTextsOf-doubled bytes cs ds w e =
    let k = AreAscii-parts cs ds (subst AreAscii (sym (characters bytes w) ∙ e) w.1) in
    record {
      front_valid = (cs, k.0, refl);
      rest_valid = (ds, k.1, refl);
      front_chars = firsts-encodings cs;
      rest_chars = firsts-encodings ds;
    }
