-- The rules of what is done to one rope, which may have been dropped.
use Rattle.std.specs.Prelude.{
  ℕ,
  ◌≡◌,
  ◌+◌,
  ◌++◌,
  ◌⊎◌,
  List,
  length,
  take,
  drop,
  chars,
  encode_utf8,
  Option,
  None,
  IsUtf8,
}
use Rattle.rope_text.specs.Growth.{TotalMust, RoomMay}
use Rattle.tendril_errors.specs.Outcomes.{LengthMust, SliceMust, CountMay}
use Rattle.tendril_errors.specs.declared.refusal.Refusal.{Refusal}
use Rattle.tendril_errors.specs.declared.refusal.Refusal.TheVariants.{WrongFormat}
use Rattle.tendril_lines.specs.declared.kind.Kind.TheVariants.{Utf8}
use Rattle.tendril_run.specs.Cells.{Cell}
use Rattle.tendril_run.specs.Cells as slots
use Rattle.tendril_run.specs.Characters.{first_of, without_first}
use Rattle.tendril_run.specs.OneCell.{on_text, made_rule}
use Rattle.tendril_run.specs.Rules.{Rule, rule_with, always, no_slot, first, with_effect}
use Rattle.rope_run.specs.RopeCells.{RopeCell, gone, rope}

-- the rule of a command that needs a rope's text: NoSuchSlot for a dropped rope, where the effect `never` never happens
abbrev pub on_rope : {E : Type 0} → E → (List ℕ → Rule E) → RopeCell → Rule E
on_rope never inner gone = no_slot never
on_rope never inner (rope b) = inner b

-- the rule of a command whose effect is a new text of a rope
abbrev pub on_total : (List ℕ → Rule (List ℕ)) → RopeCell → Rule RopeCell
on_total inner cell = on_rope gone (λ b. with_effect rope (inner b)) cell

-- the errors that are possible if `count` bytes are shared: Count of a block, and Memory for the list of pieces
abbrev pub ShareMay : ℕ → Refusal → Type 0
ShareMay count r = CountMay count r ⊎ RoomMay count r

-- the rule of a push of the text y onto the text b, which shares it
abbrev pub share_rule : List ℕ → List ℕ → Rule (List ℕ)
share_rule y b = rule_with (TotalMust (length b + length y)) (ShareMay (length y)) (b ++ y)

-- the rule of a push of a slot's text onto a rope
abbrev pub rope_push_rule : Cell → RopeCell → Rule RopeCell
rope_push_rule slot to =
    on_total (λ b. on_text b (λ kind y. first (kind ≡ Utf8) WrongFormat (share_rule y b)) slot) to

-- the rule of a push of another rope's text onto a rope
abbrev pub append_rule : RopeCell → RopeCell → Rule RopeCell
append_rule from to = on_total (λ b. on_rope b (λ y. share_rule y b) from) to

-- the first character of a rope
abbrev pub rope_char : RopeCell → Option ℕ
rope_char gone = None
rope_char (rope b) = first_of (chars b)

-- the rule of a pop of a rope's first character, which leaves the remainder
abbrev pub rope_pop_rule : RopeCell → Rule RopeCell
rope_pop_rule cell = on_total (λ b. always (without_first encode_utf8 (chars b) b)) cell

-- the rule of a slice of a rope
abbrev pub rope_part_rule : ℕ → ℕ → RopeCell → Rule RopeCell
rope_part_rule offset count cell =
    on_total (λ b. rule_with (SliceMust IsUtf8 b offset count) (ShareMay count) (take count (drop offset b))) cell

-- the rule of a new slot with a rope's text
abbrev pub rope_take_rule : RopeCell → Rule Cell
rope_take_rule cell = on_rope slots.gone (λ b. made_rule Utf8 LengthMust b) cell

-- the rule of a drop of a rope
abbrev pub rope_drop_rule : RopeCell → Rule RopeCell
rope_drop_rule cell = on_rope gone (λ b. always gone) cell
