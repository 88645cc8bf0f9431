-- The encodings of characters are a text, and the offset of each character in it.
use Rattle.std.proofs.Common.{◌≡◌, ℕ, zero, suc, ◌+◌, ◌<◌, true, ◌&&◌, List, [], ◌∷◌, ◌++◌, length, slice_get, Some}
use Rattle.std.proofs.Common.{IsAscii, IsUtf8, chars, encode_utf8, refl, sym, ap, ap₂, subst, ◌∙◌, arith, length-append}
use Rattle.std.specs.List.{AllByRecursion}
use Rattle.std.specs.Str.{all_scalars}
use Rattle.std.specs.Char.{IsScalar}
use Rattle.std.proofs.lemmas.Str.{chars-encodes}
use Rattle.tendril_fmt.specs.Bytes.{AreBytes}
use Rattle.tendril_fmt.specs.Chars.{encodings, one_byte, places_from}
use Rattle.tendril_fmt.specs.Laws.{SpellText, PlaceIsLengthBefore}
use Rattle.tendril_fmt.specs.Proved.Bytes.{AreBytes-nil, AreBytes-cons}
use Rattle.tendril_fmt.specs.Proved.Characters.{encodings-one_byte, encodings-encode_utf8}

-- if lists of characters that have an encoding are valid, each of them is the text of its own characters
spells_one_byte : (valid : List ℕ → Type 0) (encodes : ℕ → Type 0)
    → ((cs : List ℕ) → AllByRecursion encodes cs → valid cs) → SpellText valid (λ bytes. bytes) encodes one_byte
spells_one_byte valid encodes all cs h =
    (subst valid (sym (encodings-one_byte cs)) (all cs h), encodings-one_byte cs)

AreBytes-all : (cs : List ℕ) → AllByRecursion (λ c. c < 256) cs → AreBytes cs
AreBytes-all [] h = AreBytes-nil
AreBytes-all (c ∷ cs) h = AreBytes-cons c cs h.0 (AreBytes-all cs h.1)

pub spells_latin1 : SpellText AreBytes (λ bytes. bytes) (λ c. c < 256) one_byte
spells_latin1 = spells_one_byte AreBytes (λ c. c < 256) AreBytes-all

IsAscii-all : (cs : List ℕ) → AllByRecursion (λ c. c < 128) cs → IsAscii cs
IsAscii-all [] h i = omega arith
IsAscii-all (c ∷ cs) h zero = h.0
IsAscii-all (c ∷ cs) h (suc i) = IsAscii-all cs h.1 i

pub spells_ascii : SpellText IsAscii (λ bytes. bytes) (λ c. c < 128) one_byte
spells_ascii = spells_one_byte IsAscii (λ c. c < 128) IsAscii-all

all_scalars-all : (cs : List ℕ) → AllByRecursion IsScalar cs → all_scalars cs ≡ true
all_scalars-all [] h = refl
all_scalars-all (c ∷ cs) h = ap₂ (λ x y. x && y) h.0 (all_scalars-all cs h.1)

pub spells_utf8 : SpellText IsUtf8 chars IsScalar encode_utf8
spells_utf8 cs h =
    let s = all_scalars-all cs h in
    ((cs, (s, sym (encodings-encode_utf8 cs))), ap chars (encodings-encode_utf8 cs) ∙ chars-encodes cs s)

-- the offset of a character, if the first one's is `at`
places_from-at : (encoding : ℕ → List ℕ) (cs ds : List ℕ) (c at : ℕ)
    → slice_get (places_from encoding at (cs ++ c ∷ ds)) (length cs) ≡ Some (at + length (encodings encoding cs), c)
places_from-at encoding [] ds c at = ap (λ k. Some (k, c)) (omega arith)
places_from-at encoding (b ∷ cs) ds c at =
    places_from-at encoding cs ds c (at + length (encoding b))
    ∙ ap (λ k. Some (k, c)) (omega (arith, length-append (encoding b) (encodings encoding cs)))

pub PlaceIsLengthBefore-holds : PlaceIsLengthBefore
PlaceIsLengthBefore-holds encoding cs ds c = places_from-at encoding cs ds c 0 ∙ ap (λ k. Some (k, c)) (omega arith)
