-- Cells and tables: a cell is gone, or a text in a format. All that has a row for each format is in this file.
use Rattle.std.specs.Prelude.{
  ℕ,
  ◌++◌,
  ◌≤◌,
  ◌<◌,
  Bool,
  true,
  false,
  List,
  [],
  ◌∷◌,
  length,
  get_or,
  chars,
  encode_utf8,
  IsAscii,
  IsUtf8,
}
use Rattle.std.specs.Char.{IsScalar}
use Rattle.tendril_errors.specs.declared.limits.TheConstants.{MAX_LEN}
use Rattle.tendril_fmt.specs.Bytes.{AreBytes}
use Rattle.tendril_fmt.specs.Wtf8.{IsWtf8, wtf8_join}
use Rattle.tendril_lines.specs.declared.kind.Kind.{Kind}
use Rattle.tendril_lines.specs.declared.kind.Kind.TheVariants.{Bytes, Ascii, Utf8, Wtf8, Latin1}
use Rattle.tendril_run.specs.declared.slot.Slot.{Slot}
use Rattle.tendril_run.specs.declared.slot.Slot.TheVariants as slot

-- a cell of a table: a text in a format, or gone
pub data Cell : Type 0 where
  gone : Cell
  text : Kind → List ℕ → Cell

-- a table: its cells, and how many more slots it has capacity for
pub record Board : Type 0 where
  pub cells : List Cell
  pub room : ℕ

-- what a slot holds
abbrev pub cell_of : {X Y : Type 0} → Slot X Y → Cell
cell_of (slot.Bytes t) = text Bytes t.bytes
cell_of (slot.Ascii t) = text Ascii t.bytes
cell_of (slot.Utf8 t) = text Utf8 t.bytes
cell_of (slot.Wtf8 t) = text Wtf8 t.bytes
cell_of (slot.Latin1 t) = text Latin1 t.bytes
cell_of slot.Gone = gone

-- the lists that are valid in a format
abbrev pub valid_in : Kind → List ℕ → Type 0
valid_in Bytes b = AreBytes b
valid_in Ascii b = IsAscii b
valid_in Utf8 b = IsUtf8 b
valid_in Wtf8 b = IsWtf8 b
valid_in Latin1 b = AreBytes b

-- the join of two valid lists
abbrev pub join_in : Kind → List ℕ → List ℕ → List ℕ
join_in Wtf8 l r = wtf8_join l r
join_in kind l r = l ++ r

-- each text that is valid in the first format is valid in the second
abbrev pub IsPartOf : Kind → Kind → Type 0
IsPartOf Ascii Utf8 = Unit {0}
IsPartOf Ascii Latin1 = Unit {0}
IsPartOf Utf8 Wtf8 = Unit {0}
IsPartOf part whole = ⊥

-- the formats whose texts have an order
abbrev pub is_ordered : Kind → Bool
is_ordered Bytes = true
is_ordered Utf8 = true
is_ordered kind = false

-- the formats whose texts are characters
abbrev pub HasChars : Kind → Type 0
HasChars Ascii = Unit {0}
HasChars Utf8 = Unit {0}
HasChars Latin1 = Unit {0}
HasChars kind = ⊥

-- the characters of a text
abbrev pub chars_in : Kind → List ℕ → List ℕ
chars_in Utf8 b = chars b
chars_in kind b = b

-- the characters that a format has
abbrev pub IsCharIn : Kind → ℕ → Type 0
IsCharIn Ascii c = c < 128
IsCharIn Utf8 c = IsScalar c
IsCharIn Latin1 c = c < 256
IsCharIn kind c = ⊥

-- the bytes of a character
abbrev pub encoding_in : Kind → ℕ → List ℕ
encoding_in Utf8 c = encode_utf8 c
encoding_in kind c = c ∷ []

-- the cell with this number, gone past the end
abbrev pub cell_at : List Cell → ℕ → Cell
cell_at cells slot = get_or cells slot gone

-- what a text of a format may be: valid, and not too long
abbrev pub IsText : (List ℕ → Type 0) → List ℕ → Type 0
IsText valid b = valid b × (length b ≤ MAX_LEN)

-- what a cell may be: gone, or a text that is valid in its format and not too long
abbrev pub IsCell : Cell → Type 0
IsCell gone = Unit {0}
IsCell (text kind b) = IsText (valid_in kind) b
