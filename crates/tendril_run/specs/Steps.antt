-- What each command does to a table, and the reply to it.
use Rattle.std.specs.Prelude.{ℕ, ◌≡◌, List, [], ◌∷◌, ◌++◌, length, slice_set, None, Some, MatchOption, Result}
use Rattle.tendril_errors.specs.Outcomes.{LengthMust, BytesMust}
use Rattle.tendril_errors.specs.declared.refusal.Refusal.{Refusal}
use Rattle.tendril_fmt.specs.Wtf8.{wtf8}
use Rattle.tendril_lines.specs.declared.kind.Kind.TheVariants as format
use Rattle.tendril_run.specs.Cells.{Cell, text, valid_in, cell_at}
use Rattle.tendril_run.specs.Comparisons.{compare_rule}
use Rattle.tendril_run.specs.OneCell.{
  made_rule,
  part_rule,
  clone_rule,
  push_rule,
  join_rule,
  char_of,
  pop_char_rule,
  run_of,
  pop_run_rule,
  change_rule,
  text_rule,
  units_rule,
}
use Rattle.tendril_run.specs.Rules.{Rule, always, with_effect, Changes, Follows, answer_of}
use Rattle.tendril_lines.specs.declared.command.Command.{Command}
use Rattle.tendril_lines.specs.declared.command.Command.TheVariants.{
  New,
  FromBytes,
  PushBytes,
  PushTendril,
  Change,
  Slice,
  PopChar,
  PopRun,
  Clone,
  Compare,
  Text,
  FromUnits,
  Units,
}
use Rattle.tendril_lines.specs.declared.command.Reply.{Reply}
use Rattle.tendril_lines.specs.declared.command.Reply.TheVariants as reply

-- a command's reply, and the cells that it leaves
abbrev pub Effect : Type 1
Effect = Reply → List Cell → Type 0

-- the reply names the new last cell
abbrev pub AddsCell : List Cell → Cell → Effect
AddsCell old cell answer new = (answer ≡ reply.Made (length old)) × (new ≡ old ++ cell ∷ [])

-- one cell is replaced by another, and the reply is `said`
abbrev pub LeavesCell : List Cell → ℕ → Reply → Cell → Effect
LeavesCell old slot said cell answer new = (answer ≡ said) × (new ≡ slice_set old slot cell)

-- the first run of a cell moves into a new last cell, and the reply has its number and class; None if there is no run
abbrev pub TakesRun : (ℕ → ℕ) → List Cell → ℕ → Cell → Effect
TakesRun class old slot rest answer new =
    MatchOption (char_of (cell_at old slot))
    ((answer ≡ reply.Run None) × (new ≡ old))
    (λ c. (answer ≡ reply.Run (Some (length old, class c)))
    × (new ≡ slice_set old slot rest ++ run_of class (cell_at old slot) ∷ []))

-- the reply is `said`, and nothing changes
abbrev pub OnlySays : List Cell → Reply → Effect
OnlySays old said answer new = (answer ≡ said) × (new ≡ old)

-- the rule of a change of one cell of a table, with the reply Done
abbrev pub at_slot : ℕ → (Cell → Rule Cell) → List Cell → Rule Effect
at_slot slot by old = with_effect (LeavesCell old slot reply.Done) (by (cell_at old slot))

-- the text of one cell is appended to another's
abbrev pub TableJoined : {R : Type 0} → ℕ → ℕ → List Cell → Result R Refusal → List Cell → Type 0
TableJoined to from old result new =
    Changes (λ cells. with_effect (slice_set cells to) (join_rule to from (cell_at cells from) (cell_at cells to)))
    old result new

-- The rule of a command, for the cells before it: the required error, the permitted ones, and else the reply and the
-- new cells. `class` sorts characters.
abbrev pub rule_of : (ℕ → ℕ) → Command → List Cell → Rule Effect
rule_of class (New kind) old = with_effect (AddsCell old) (always (text kind []))
rule_of class (FromBytes kind y) old =
    with_effect (AddsCell old) (made_rule kind (BytesMust (valid_in kind) y) y)
rule_of class (PushBytes slot y) old = at_slot slot (push_rule y) old
rule_of class (PushTendril to from) old = at_slot to (join_rule to from (cell_at old from)) old
rule_of class (Change slot change) old = at_slot slot (change_rule change) old
rule_of class (Slice slot offset count) old =
    with_effect (AddsCell old) (part_rule offset count (cell_at old slot))
rule_of class (PopChar slot) old =
    with_effect (LeavesCell old slot (reply.Char (char_of (cell_at old slot)))) (pop_char_rule (cell_at old slot))
rule_of class (PopRun slot) old = with_effect (TakesRun class old slot) (pop_run_rule class (cell_at old slot))
rule_of class (Clone slot) old = with_effect (AddsCell old) (clone_rule (cell_at old slot))
rule_of class (Compare one other) old =
    with_effect (OnlySays old) (compare_rule (cell_at old one) (cell_at old other))
rule_of class (Text slot) old = with_effect (OnlySays old) (text_rule (cell_at old slot))
rule_of class (FromUnits us) old = with_effect (AddsCell old) (made_rule format.Wtf8 LengthMust (wtf8 us))
rule_of class (Units slot) old = with_effect (OnlySays old) (units_rule (cell_at old slot))

-- by its rule, a command leads from the cells before it to its result and the cells after it
abbrev pub CommandOutcome : (ℕ → ℕ) → List Cell → Command → Result Reply Refusal → List Cell → Type 0
CommandOutcome class old command result new = Follows (rule_of class command) old result new

-- `CommandOutcome` by the reply, which is `Refused` for an error
abbrev pub Step : (ℕ → ℕ) → List Cell → Command → Reply → List Cell → Type 0
Step class old command answer new = CommandOutcome class old command (answer_of answer) new
