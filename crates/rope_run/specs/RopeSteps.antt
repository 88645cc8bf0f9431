-- What each command does to a table of texts and ropes, and what it replies.
use Rattle.std.specs.Prelude.{ℕ, ◌≡◌, [], ◌∷◌, ◌++◌, length, slice_set, Result, Ok, Err}
use Rattle.tendril_errors.specs.declared.refusal.Refusal.{Refusal}
use Rattle.tendril_lines.specs.declared.command.Reply.{Reply}
use Rattle.tendril_lines.specs.declared.command.Reply.TheVariants as reply
use Rattle.tendril_run.specs.Cells.{Cell, cell_at}
use Rattle.tendril_run.specs.Rules.{Rule, always, with_effect, Follows}
use Rattle.tendril_run.specs.Steps.{Effect, rule_of}
use Rattle.rope_run.specs.RopeCells.{Cells, RopeCell, rope, rope_at}
use Rattle.rope_run.specs.RopeRows.{
  on_rope,
  rope_push_rule,
  append_rule,
  rope_char,
  rope_pop_rule,
  rope_part_rule,
  rope_take_rule,
  rope_drop_rule,
}
use Rattle.rope_run.specs.declared.command.RopeCommand.{RopeCommand}
use Rattle.rope_run.specs.declared.command.RopeCommand.TheVariants.{
  OnSlots,
  RopeNew,
  RopePush,
  RopeAppend,
  RopeLen,
  RopePopChar,
  RopeSub,
  RopeTake,
  RopeDrop,
}
use Rattle.rope_run.specs.declared.command.RopeReply.{RopeReply}
use Rattle.rope_run.specs.declared.command.RopeReply.TheVariants.{Plain, MadeRope, Length}

-- a reply as a result: its error, or the reply itself
abbrev pub rope_answer_of : RopeReply → Result RopeReply Refusal
rope_answer_of (Plain (reply.Refused r)) = Err r
rope_answer_of answer = Ok answer

-- what a command replies, and the cells that it leaves
abbrev pub RopeEffect : Type 1
RopeEffect = RopeReply → Cells → Type 0

-- what a command replies and leaves: an error and no change, or its effect
abbrev pub RopeReplied : (Cells → Rule RopeEffect) → Cells → RopeReply → Cells → Type 0
RopeReplied by old answer new = Follows by old (rope_answer_of answer) new

-- the reply is `said`, and nothing changes
abbrev pub Says : Cells → RopeReply → RopeEffect
Says old said answer new = (answer ≡ said) × (new ≡ old)

-- the reply is this error, and nothing changes
abbrev pub IsRefused : Cells → Refusal → RopeEffect
IsRefused old r answer new = Says old (Plain (reply.Refused r)) answer new

-- the reply names the new last rope
abbrev pub AddsRope : Cells → RopeCell → RopeEffect
AddsRope old cell answer new =
    (answer ≡ MadeRope (length old.ropes)) × ((new.ropes ≡ old.ropes ++ cell ∷ []) × (new.slots ≡ old.slots))

-- the reply names the new last slot
abbrev pub AddsSlot : Cells → Cell → RopeEffect
AddsSlot old cell answer new =
    (answer ≡ Plain (reply.Made (length old.slots)))
    × ((new.slots ≡ old.slots ++ cell ∷ []) × (new.ropes ≡ old.ropes))

-- one rope's cell becomes `cell`, and the reply is `said`
abbrev pub LeavesRope : Cells → ℕ → Reply → RopeCell → RopeEffect
LeavesRope old number said cell answer new =
    (answer ≡ Plain said) × ((new.ropes ≡ slice_set old.ropes number cell) × (new.slots ≡ old.slots))

-- a command on the slots has its effect there, and the ropes are unchanged
abbrev pub OnSlotsAlone : Cells → Effect → RopeEffect
OnSlotsAlone old effect answer new =
    (said : Reply) × (answer ≡ Plain said) × effect said new.slots × (new.ropes ≡ old.ropes)

-- the rule of a command that changes the rope of a number by the rule `by`, and replies what `said` says of the old one
abbrev pub at_rope : ℕ → (RopeCell → Reply) → (RopeCell → Rule RopeCell) → Cells → Rule RopeEffect
at_rope number said by old =
    with_effect (LeavesRope old number (said (rope_at old.ropes number))) (by (rope_at old.ropes number))

-- The rule of a command, from the cells before it: the required error, the permitted ones, and what it replies and
-- leaves without an error. `class` returns the class of a character.
abbrev pub rope_rule_of : (ℕ → ℕ) → RopeCommand → Cells → Rule RopeEffect
rope_rule_of class (OnSlots command) old = with_effect (OnSlotsAlone old) (rule_of class command old.slots)
rope_rule_of class RopeNew old = always (AddsRope old (rope []))
rope_rule_of class (RopePush number slot) old =
    at_rope number (λ cell. reply.Done) (rope_push_rule (cell_at old.slots slot)) old
rope_rule_of class (RopeAppend to from) old =
    at_rope to (λ cell. reply.Done) (append_rule (rope_at old.ropes from)) old
rope_rule_of class (RopeLen number) old =
    with_effect (λ count. Says old (Length count)) (on_rope 0 (λ b. always (length b)) (rope_at old.ropes number))
rope_rule_of class (RopePopChar number) old =
    at_rope number (λ cell. reply.Char (rope_char cell)) rope_pop_rule old
rope_rule_of class (RopeSub number offset count) old =
    with_effect (AddsRope old) (rope_part_rule offset count (rope_at old.ropes number))
rope_rule_of class (RopeTake number) old = with_effect (AddsSlot old) (rope_take_rule (rope_at old.ropes number))
rope_rule_of class (RopeDrop number) old = at_rope number (λ cell. reply.Done) rope_drop_rule old

-- one command by its rule, from the cells before it to its reply and the cells after it
abbrev pub RopeStep : (ℕ → ℕ) → Cells → RopeCommand → RopeReply → Cells → Type 0
RopeStep class old command answer new = RopeReplied (rope_rule_of class command) old answer new
