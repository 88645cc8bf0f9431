-- Edits of a cell's text, which keep its format.
use Rattle.std.specs.Prelude.{ℕ, ◌<◌, ◌+◌, ◌-◌, ◌++◌, List, [], length, take, drop, replicate, slice_set}
use Rattle.tendril_errors.specs.declared.refusal.Refusal.TheVariants.{OutOfBounds}
use Rattle.tendril_errors.specs.Outcomes.{NoneMust, LengthMust, PopMust, NoneMay, MemoryMay}
use Rattle.tendril_run.specs.Rules.{Rule, rule_with, always, first}
use Rattle.tendril_lines.specs.declared.change.ByteEdit.{ByteEdit}
use Rattle.tendril_lines.specs.declared.change.ByteEdit.TheVariants.{PushZeros, WriteByte}
use Rattle.tendril_lines.specs.declared.change.Edit.{Edit}
use Rattle.tendril_lines.specs.declared.change.Edit.TheVariants.{PopFront, PopBack, Clear, Reserve}

-- the rule of an edit of the text b, which leaves it valid
abbrev pub edit_rule : (List ℕ → Type 0) → Edit → List ℕ → Rule (List ℕ)
edit_rule valid (PopFront count) b = rule_with (PopMust valid b count (drop count b)) NoneMay (drop count b)
edit_rule valid (PopBack count) b =
    rule_with (PopMust valid b count (take (length b - count) b)) NoneMay (take (length b - count) b)
edit_rule valid Clear b = always []
edit_rule valid (Reserve more) b = rule_with (LengthMust (length b + more)) (MemoryMay (length b + more)) b

-- the rule of an edit of the bytes b, which may leave any bytes
abbrev pub byte_edit_rule : ByteEdit → List ℕ → Rule (List ℕ)
byte_edit_rule (PushZeros count) b =
    rule_with (LengthMust (length b + count)) (MemoryMay (length b + count)) (b ++ replicate count 0)
byte_edit_rule (WriteByte index byte) b =
    first (index < length b) OutOfBounds (rule_with NoneMust (MemoryMay (length b)) (slice_set b index byte))
