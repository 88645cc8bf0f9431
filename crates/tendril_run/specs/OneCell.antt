-- What a command does to one cell.
use Rattle.std.specs.Prelude.{ℕ, ◌≡◌, ◌⊎◌, List, length, take, drop, Option, Some, None, Result, MatchResult, IfOk}
use Rattle.tendril_errors.specs.declared.refusal.Refusal.{Refusal}
use Rattle.tendril_errors.specs.declared.refusal.Refusal.TheVariants.{NoSuchSlot, Memory, WrongFormat}
use Rattle.tendril_errors.specs.Outcomes.{
  NoneMust,
  LengthMust,
  ValidMust,
  BytesMust,
  NoneMay,
  MemoryMay,
  SliceMust,
  CharMust,
  CountMay,
}
use Rattle.tendril_fmt.specs.Wtf8.{units}
use Rattle.tendril_run.specs.Cells.{
  Cell,
  IsCell,
  gone,
  text,
  valid_in,
  join_in,
  IsPartOf,
  HasChars,
  IsCharIn,
  chars_in,
  encoding_in,
}
use Rattle.tendril_run.specs.Characters.{first_of, without_first, run_bytes, FirstRunMay}
use Rattle.tendril_run.specs.Edits.{edit_rule, byte_edit_rule}
use Rattle.tendril_run.specs.Rules.{Rule, rule_with, always, no_slot, grown, first, with_effect}
use Rattle.tendril_lines.specs.declared.change.Change.{Change}
use Rattle.tendril_lines.specs.declared.change.Change.TheVariants as change
use Rattle.tendril_lines.specs.declared.change.Conversion.{Conversion}
use Rattle.tendril_lines.specs.declared.change.Conversion.TheVariants.{Reinterpret, ToSuperset, ToSubset}
use Rattle.tendril_lines.specs.declared.kind.Kind.{Kind}
use Rattle.tendril_lines.specs.declared.kind.Kind.TheVariants.{Bytes, Wtf8}
use Rattle.tendril_lines.specs.declared.command.Reply.{Reply}
use Rattle.tendril_lines.specs.declared.command.Reply.TheVariants.{Text, Units, Refused}

-- the rule of a call that needs a cell's text; if the cell is gone, NoSuchSlot is required and the effect never holds
abbrev pub on_text : {E : Type 0} → E → (Kind → List ℕ → Rule E) → Cell → Rule E
on_text never inner gone = no_slot never
on_text never inner (text kind b) = inner kind b

-- the rule of a call that changes a cell's text, in the same format
abbrev pub on_bytes : (Kind → List ℕ → Rule (List ℕ)) → Cell → Rule Cell
on_bytes inner cell = on_text gone (λ kind b. with_effect (text kind) (inner kind b)) cell

-- the rule of a call that changes a cell's text by its characters, if its format has them
abbrev pub on_chars : (Kind → List ℕ → Rule (List ℕ)) → Cell → Rule Cell
on_chars inner cell = on_bytes (λ kind b. first (HasChars kind) WrongFormat (inner kind b)) cell

-- the rule of a reply that depends on a cell's text
abbrev pub on_told : (Kind → List ℕ → Rule Reply) → Cell → Rule Reply
on_told inner cell = on_text (Refused NoSuchSlot) inner cell

-- Memory is permitted where a reply copies a text, of whatever length
abbrev pub ToldMay : Refusal → Type 0
ToldMay r = r ≡ Memory

-- the errors that are permitted where a text of n bytes is made sendable and converted back
abbrev pub SendMay : ℕ → Refusal → Type 0
SendMay n r = MemoryMay n r ⊎ CountMay n r

-- the rule of a new cell with the text z; `must` takes its length
abbrev pub made_rule : Kind → (ℕ → Option Refusal → Type 0) → List ℕ → Rule Cell
made_rule kind must z = with_effect (text kind) (grown must z)

-- the rule of a slice of a cell
abbrev pub part_rule : ℕ → ℕ → Cell → Rule Cell
part_rule offset count cell =
    on_bytes (λ kind b.
    rule_with (SliceMust (valid_in kind) b offset count) (CountMay count) (take count (drop offset b))) cell

-- the rule of a clone of a cell
abbrev pub clone_rule : Cell → Rule Cell
clone_rule cell = on_bytes (λ kind b. rule_with NoneMust (CountMay (length b)) b) cell

-- the rule of a push of the bytes y onto a cell
abbrev pub push_rule : List ℕ → Cell → Rule Cell
push_rule y cell = on_bytes (λ kind b. grown (BytesMust (valid_in kind) y) (join_in kind b y)) cell

-- the rule of a push of the character c onto a cell
abbrev pub push_char_rule : ℕ → Cell → Rule Cell
push_char_rule c cell =
    on_chars (λ kind b. grown (CharMust (IsCharIn kind) c) (join_in kind b (encoding_in kind c))) cell

-- the rule of a push of another cell's text onto a cell: if both are one slot, it is shared first
abbrev pub join_rule : ℕ → ℕ → Cell → Cell → Rule Cell
join_rule to from other cell =
    on_bytes (λ kind b. on_text b (λ format y.
    let z = join_in kind b y in
    first (kind ≡ format) WrongFormat
    (rule_with (LengthMust (length z)) (λ r. MemoryMay (length z) r ⊎ ((to ≡ from) × CountMay (length b) r)) z))
    other) cell

-- the first character of a cell
abbrev pub char_of : Cell → Option ℕ
char_of gone = None
char_of (text kind b) = first_of (chars_in kind b)

-- the rule of a pop of a cell's first character
abbrev pub pop_char_rule : Cell → Rule Cell
pop_char_rule cell = on_chars (λ kind b. always (without_first (encoding_in kind) (chars_in kind b) b)) cell

-- the first run of a cell
abbrev pub run_of : (ℕ → ℕ) → Cell → Cell
run_of class gone = gone
run_of class (text kind b) = text kind (run_bytes (encoding_in kind) class (chars_in kind b))

-- the rule of a pop of the first run
abbrev pub pop_run_rule : (ℕ → ℕ) → Cell → Rule Cell
pop_run_rule class cell =
    on_chars (λ kind b. rule_with NoneMust (FirstRunMay (encoding_in kind) class (chars_in kind b) b)
    (drop (length (run_bytes (encoding_in kind) class (chars_in kind b))) b)) cell

-- a cell is split into its first run, whose class is k, and the remainder
abbrev pub IsRunOf : (ℕ → ℕ) → Cell → ℕ → Cell → Cell → Type 0
IsRunOf class cell k run rest =
    (c : ℕ) × (char_of cell ≡ Some c) × (k ≡ class c) × (run ≡ run_of class cell)
    × (rest ≡ (pop_run_rule class cell).effect)

-- the rule of the reply that is a cell's text
abbrev pub text_rule : Cell → Rule Reply
text_rule cell = on_told (λ kind b. rule_with NoneMust ToldMay (Text kind b)) cell

-- the rule of the reply that is a cell's units
abbrev pub units_rule : Cell → Rule Reply
units_rule cell =
    on_told (λ kind b. first (kind ≡ Wtf8) WrongFormat (rule_with NoneMust ToldMay (Units (units b)))) cell

-- the rule of a conversion of a text to another format, with the same bytes
abbrev pub conversion_rule : Conversion → Kind → List ℕ → Rule Cell
conversion_rule (Reinterpret other) kind b = rule_with (ValidMust (valid_in other) b) NoneMay (text other b)
conversion_rule (ToSuperset other) kind b = first (IsPartOf kind other) WrongFormat (always (text other b))
conversion_rule (ToSubset other) kind b =
    first (IsPartOf other kind) WrongFormat (rule_with (ValidMust (valid_in other) b) NoneMay (text other b))

-- the rule of a change of a cell
abbrev pub change_rule : Change → Cell → Rule Cell
change_rule (change.PushChar c) cell = push_char_rule c cell
change_rule (change.Edit edit) cell = on_bytes (λ kind b. edit_rule (valid_in kind) edit b) cell
change_rule (change.EditBytes edit) cell =
    on_bytes (λ kind b. first (kind ≡ Bytes) WrongFormat (byte_edit_rule edit b)) cell
change_rule (change.Convert conversion) cell = on_text gone (conversion_rule conversion) cell
change_rule change.ThroughSend cell = on_bytes (λ kind b. rule_with NoneMust (SendMay (length b)) b) cell
change_rule change.Drop cell = on_text gone (λ kind b. always gone) cell

-- a slot with this cell is converted, or returned unchanged with the error
pub record Converts {S : Type 0} (cell_of : S → Cell) (cell : Cell) (conversion : Conversion)
    (result : Result S (Refusal × S)) : Type 0 where
  pub outcome : let by = change_rule (change.Convert conversion) cell in
      MatchResult result (λ s. by.must None × (cell_of s ≡ by.effect)) (λ e. by.must (Some e.0) × (cell_of e.1 ≡ cell))
  pub kept : IfOk result (λ s. IsCell cell → IsCell (cell_of s))
