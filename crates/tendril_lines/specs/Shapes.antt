-- The kinds and the values of the words after a verb.
use Rattle.std.specs.Prelude.{ℕ, ◌≡◌, List, [], ◌∷◌, map}
use Rattle.tendril_lines.specs.Names.{kind_name}
use Rattle.tendril_lines.specs.Words.{IsNumber, IsLongNumber, IsCharWord, IsHex, IsByteWord, IsUnits}
use Rattle.tendril_lines.specs.declared.shape.Value.{Value}
use Rattle.tendril_lines.specs.declared.shape.Value.TheVariants.{
  Slot,
  Number,
  Long,
  Character,
  Format,
  Bytes,
  Byte,
  Units16,
}
use Rattle.tendril_lines.specs.declared.shape.Values.{Values}
use Rattle.tendril_lines.specs.declared.shape.Values.TheVariants.{Empty, One, Two, Three}
use Rattle.tendril_lines.specs.declared.shape.Word.{Word}
use Rattle.tendril_lines.specs.declared.shape.Word.TheVariants as kinds

-- the word denotes the value
abbrev pub IsWord : Value → List ℕ → Type 0
IsWord (Slot n) word = IsNumber n word
IsWord (Number n) word = IsNumber n word
IsWord (Long n) word = IsLongNumber n word
IsWord (Character c) word = IsCharWord c word
IsWord (Format kind) word = word ≡ kind_name kind
IsWord (Bytes b) word = IsHex b word
IsWord (Byte b) word = IsByteWord b word
IsWord (Units16 us) word = IsUnits us word

-- the kind of word that denotes the value
abbrev pub word_of : Value → Word
word_of (Slot n) = kinds.Slot
word_of (Number n) = kinds.Number
word_of (Long n) = kinds.Long
word_of (Character c) = kinds.Character
word_of (Format kind) = kinds.Format
word_of (Bytes b) = kinds.Bytes
word_of (Byte b) = kinds.Byte
word_of (Units16 us) = kinds.Units16

-- the values in their order
abbrev pub list_of : Values → List Value
list_of Empty = []
list_of (One a) = a ∷ []
list_of (Two a b) = a ∷ b ∷ []
list_of (Three a b c) = a ∷ b ∷ c ∷ []

-- the kinds of their words
abbrev pub shape_of : Values → List Word
shape_of values = map word_of (list_of values)

-- one word for each value, and no more
abbrev pub AreWords : List Value → List (List ℕ) → Type 0
AreWords [] [] = Unit {0}
AreWords (x ∷ xs) (word ∷ rest) = IsWord x word × AreWords xs rest
AreWords [] (word ∷ rest) = ⊥
AreWords (x ∷ xs) [] = ⊥

-- these are the verb and the values
abbrev pub Spells : List ℕ × Values → List ℕ → Values → Type 0
Spells spelling verb values = (verb ≡ spelling.0) × (values ≡ spelling.1)

-- a verb, and a word for each value
abbrev pub AreVerbAndWords : List ℕ × Values → List (List ℕ) → Type 0
AreVerbAndWords spelling [] = ⊥
AreVerbAndWords spelling (first ∷ rest) = (first ≡ spelling.0) × AreWords (list_of spelling.1) rest
