-- Laws of joining, in every format, and of characters.
use Rattle.std.specs.Prelude.{◌≡◌, ℕ, List, [], ◌∷◌, ◌++◌, length, Some, slice_get}
use Rattle.std.specs.List.{AllByRecursion}
use Rattle.tendril_fmt.specs.Chars.{encodings, places_from}
use Rattle.tendril_fmt.specs.Wtf8.{IsUnit, IsWtf8, wtf8, units, wtf8_join}

-- of three texts it doesn't matter which two are joined first
abbrev pub JoinIsAssociative : (List ℕ → Type 0) → (List ℕ → List ℕ → List ℕ) → Type 0
JoinIsAssociative valid join = (a b c : List ℕ) → valid a → valid b → valid c → join (join a b) c ≡ join a (join b c)

-- joining with the empty text changes nothing
abbrev pub EmptyIsUnit : (List ℕ → Type 0) → (List ℕ → List ℕ → List ℕ) → Type 0
EmptyIsUnit valid join = (b : List ℕ) → valid b → (join [] b ≡ b) × (join b [] ≡ b)

-- a valid text that is cut into two valid slices is their join
abbrev pub CutIsJoin : (List ℕ → Type 0) → (List ℕ → List ℕ → List ℕ) → Type 0
CutIsJoin valid join = (l r : List ℕ) → valid l → valid r → valid (l ++ r) → join l r ≡ l ++ r

-- the laws of joining in a format
pub record JoinLaws (valid : List ℕ → Type 0) (join : List ℕ → List ℕ → List ℕ) : Type 0 where
  pub associative : JoinIsAssociative valid join
  pub unit : EmptyIsUnit valid join
  pub cut : CutIsJoin valid join

-- no units are lost: the units of the WTF-8 of units are these units
abbrev pub UnitsRoundTrip : Type 0
UnitsRoundTrip = (us : List ℕ) → AllByRecursion IsUnit us → units (wtf8 us) ≡ us

-- no bytes are lost: the WTF-8 of a valid text's units is the text
abbrev pub TextRoundTrip : Type 0
TextRoundTrip = (bytes : List ℕ) → IsWtf8 bytes → wtf8 (units bytes) ≡ bytes

-- the units of a join are those of the left and then those of the right
abbrev pub JoinAppendsUnits : Type 0
JoinAppendsUnits = (l r : List ℕ) → IsWtf8 l → IsWtf8 r → units (wtf8_join l r) ≡ units l ++ units r

-- the encodings of characters that have one, in any order, are a text, which has exactly these characters
abbrev pub SpellText : (List ℕ → Type 0) → (List ℕ → List ℕ) → (ℕ → Type 0) → (ℕ → List ℕ) → Type 0
SpellText valid chars encodes encoding =
    (cs : List ℕ) → AllByRecursion encodes cs → valid (encodings encoding cs) × (chars (encodings encoding cs) ≡ cs)

-- the offset of a character is the number of bytes of those before it
abbrev pub PlaceIsLengthBefore : Type 0
PlaceIsLengthBefore =
    (encoding : ℕ → List ℕ) (cs ds : List ℕ) (c : ℕ)
    → slice_get (places_from encoding 0 (cs ++ c ∷ ds)) (length cs) ≡ Some (length (encodings encoding cs), c)
