-- Joins, slices and encodings have only numbers below 256.
use Rattle.std.proofs.Common.{
  ℕ,
  zero,
  suc,
  ◌+◌,
  ◌<◌,
  List,
  [],
  ◌∷◌,
  ◌++◌,
  length,
  take,
  drop,
  IsAscii,
  refl,
  sym,
  ap,
  subst,
  ◌∙◌,
  arith,
  ⊎_elim,
  length-take,
  get_or-take,
  get_or-drop,
  take_at,
  drop_at,
}
use Rattle.std.specs.List.{All, AllByRecursion}
use Rattle.std.specs.Str.{encode_utf8_all}
use Rattle.std.specs.Char.{encode_utf8}
use Rattle.std.proofs.lemmas.Bool.{cases_lt}
use Rattle.std.proofs.lemmas.List.{get_or_past}
use Rattle.std.proofs.lemmas.List.Elements.{All-from_get_or}
use Rattle.tendril_fmt.specs.Bytes.{AreBytes}
use Rattle.tendril_fmt.specs.CodePoints.{IsCodePoint}
use Rattle.tendril_fmt.specs.Parts.{IsFrontOf, IsEndOf}
use Rattle.tendril_fmt.specs.Proved.Encodings.{Shape, of1, of2, of3, of4, point_shape}

pub AreBytes-nil : AreBytes []
AreBytes-nil i = omega arith

pub AreBytes-cons : (b : ℕ) (bytes : List ℕ) → b < 256 → AreBytes bytes → AreBytes (b ∷ bytes)
AreBytes-cons b bytes h k zero = h
AreBytes-cons b bytes h k (suc i) = k i

pub AreBytes-append : (l r : List ℕ) → AreBytes l → AreBytes r → AreBytes (l ++ r)
AreBytes-append [] r h k = k
AreBytes-append (b ∷ l) r h k = AreBytes-cons b (l ++ r) (h 0) (AreBytes-append l r (λ i. h (suc i)) k)

pub AreBytes-take : (bytes : List ℕ) (n : ℕ) → AreBytes bytes → AreBytes (take n bytes)
AreBytes-take bytes n h i = ⊎_elim
    (λ l. omega (arith, get_or-take n bytes i 0 l, h i))
    (λ l. omega (arith, get_or_past (take n bytes) i 0 (omega (arith, length-take n bytes))))
    (cases_lt i n)

pub AreBytes-drop : (bytes : List ℕ) (n : ℕ) → AreBytes bytes → AreBytes (drop n bytes)
AreBytes-drop bytes n h i = omega (arith, get_or-drop n bytes i 0, h (n + i))

pub All-from_bytes : (bytes : List ℕ) → AreBytes bytes → All (λ b. b < 256) bytes
All-from_bytes bytes h = All-from_get_or (λ b. b < 256) bytes 0 (λ i _. h i)

-- Slices

pub AreBytes-front : (part whole : List ℕ) → AreBytes whole → IsFrontOf part whole → AreBytes part
AreBytes-front part whole h f =
    subst AreBytes (ap (take (length part)) f.1 ∙ take_at part f.0 (length part) refl)
    (AreBytes-take whole (length part) h)

pub AreBytes-end : (part whole : List ℕ) → AreBytes whole → IsEndOf part whole → AreBytes part
AreBytes-end part whole h f =
    subst AreBytes (ap (drop (length f.0)) f.1 ∙ drop_at f.0 part (length f.0) refl)
    (AreBytes-drop whole (length f.0) h)

-- Encodings

-- ASCII is below 128
pub AreBytes-from_ascii : (bytes : List ℕ) → IsAscii bytes → AreBytes bytes
AreBytes-from_ascii bytes h i = omega (arith, h i)

one : (b : ℕ) → b < 256 → AreBytes (b ∷ [])
one b h = AreBytes-cons b [] h AreBytes-nil

of_shape : (c : ℕ) → Shape c → AreBytes (encode_utf8 c)
of_shape c (of1 h e) = subst AreBytes (sym e) (one c (omega arith))
of_shape c (of2 a b l h f s e) =
    subst AreBytes (sym e) (AreBytes-cons a (b ∷ []) (omega arith) (one b (omega (arith, f.1))))
of_shape c (of3 a b d l h f g s m e) =
    subst AreBytes (sym e)
    (AreBytes-cons a (b ∷ d ∷ []) (omega arith)
    (AreBytes-cons b (d ∷ []) (omega (arith, f.1)) (one d (omega (arith, g.1)))))
of_shape c (of4 a b d x l h f g k s m e) =
    let last : AreBytes (d ∷ x ∷ []) = AreBytes-cons d (x ∷ []) (omega (arith, g.1)) (one x (omega (arith, k.1))) in
    subst AreBytes (sym e)
    (AreBytes-cons a (b ∷ d ∷ x ∷ []) (omega arith) (AreBytes-cons b (d ∷ x ∷ []) (omega (arith, f.1)) last))

-- the encodings of code points, surrogates too
pub AreBytes-encode_utf8_all : (cs : List ℕ) → AllByRecursion IsCodePoint cs → AreBytes (encode_utf8_all cs)
AreBytes-encode_utf8_all [] h = AreBytes-nil
AreBytes-encode_utf8_all (c ∷ cs) h =
    AreBytes-append (encode_utf8 c) (encode_utf8_all cs) (of_shape c (point_shape c h.0))
    (AreBytes-encode_utf8_all cs h.1)
