-- Ropes and texts that are created from a table's ropes.
use Rattle.std.proofs.Common.{◌≡◌, ℕ, ◌<◌, ◌≤◌, ◌+◌, List, [], ◌∷◌, ◌++◌, length, ap, refl, ◌∙◌, inl, inr, arith}
use Rattle.std.proofs.Common.{Option, Result, Ok, Err}
use Rattle.std.specs.Result.{MatchResult}
use Rattle.tendril_errors.specs.Outcomes.{Gives, NoneMust, Refused}
use Rattle.tendril_errors.specs.declared.refusal.Refusal.{Refusal}
use Rattle.tendril_lines.specs.declared.kind.Kind.TheVariants.{Utf8}
use Rattle.tendril_run.specs.Cells.{Cell, text}
use Rattle.tendril_text.specs.Making.{MakesText}
use Rattle.tendril_text.specs.Texts.{Text}
use Rattle.rope_text.specs.declared.rope.TheConstants.{MAX_TOTAL}
use Rattle.rope_text.specs.Parts.{HasLongShare, IsCloneOf, PartMay, SubRope}
use Rattle.rope_text.specs.Ropes.{RopeText}
use Rattle.rope_run.specs.declared.command.RopeReply.{RopeReply}
use Rattle.rope_run.specs.RopeCells.{Cells, RopeCell, rope}
use Rattle.rope_run.specs.RopeRows.{ShareMay, append_rule, rope_part_rule, rope_take_rule}
use Rattle.rope_run.specs.RopeSteps.{AddsRope, AddsSlot, IsRefused, RopeReplied}
use Rattle.tendril_run.specs.Rules.{Rule, with_effect, GivesBy}

-- a slice with more than 8 bytes of one piece has more than 8 bytes
long_share : (pieces : List Text) (offset count : ℕ) → HasLongShare pieces offset count → 8 < count
long_share pieces offset count h = omega (arith, h.is_long, h.begins, h.ends)

may_share : (pieces : List Text) (offset count : ℕ) (r : Refusal) → PartMay pieces offset count r → ShareMay count r
may_share pieces offset count r (inl h) = inl (h.0, long_share pieces offset count h.1)
may_share pieces offset count r (inr h) = inr h

refused_share : (must : Option Refusal → Type 0) (pieces : List Text) (offset count : ℕ) (r : Refusal)
    → Refused must (PartMay pieces offset count) r → Refused must (ShareMay count) r
refused_share must pieces offset count r (inl h) = inl h
refused_share must pieces offset count r (inr h) = inr (h.0, may_share pieces offset count r h.1)

-- a slice of a rope follows the rule of its cell
pub part_given : (old : RopeText) (offset count : ℕ) (result : Result RopeText Refusal)
    → SubRope old offset count result
    → GivesBy (rope_part_rule offset count (rope old.bytes)) (λ r. rope r.bytes) result
part_given old offset count (Ok made) h = (h.0, ap rope h.1.bytes)
part_given old offset count (Err r) h =
    refused_share (rope_part_rule offset count (rope old.bytes)).must old.pieces offset count r h

-- and so does its clone, if it may be appended to another rope
pub clone_given : (to from : RopeText) (result : Result RopeText Refusal)
    → length to.bytes + length from.bytes ≤ MAX_TOTAL
    → Gives NoneMust (PartMay from.pieces 0 (length from.bytes)) (IsCloneOf from) result
    → Gives (append_rule (rope from.bytes) (rope to.bytes)).must (append_rule (rope from.bytes) (rope to.bytes)).may
    (λ r. rope r.bytes ≡ rope from.bytes) result
clone_given to from (Ok made) fits h = ((fits, tt), ap rope h.1.bytes)
clone_given to from (Err r) fits (inl h) = absurd h
clone_given to from (Err r) fits (inr h) = inr ((fits, tt), may_share from.pieces 0 (length from.bytes) r h.1)

-- and so does its text
pub whole_given : (old : RopeText) (result : Result Text Refusal) → MakesText old.bytes result
    → GivesBy (rope_take_rule (rope old.bytes)) (λ t. text Utf8 t.bytes) result
whole_given old (Ok t) h = (h.0, ap (λ b. text Utf8 b) h.1.bytes)
whole_given old (Err r) h = h

-- a command that adds the rope, or replies with its error, follows the rule
pub rope_added : (by : Rule RopeCell) (old new : Cells) (made : Result RopeText Refusal) (answer : RopeReply)
    → MatchResult made (λ r. AddsRope old (rope r.bytes) answer new) (λ r. IsRefused old r answer new)
    → GivesBy by (λ r. rope r.bytes) made → RopeReplied (λ old. with_effect (AddsRope old) by) old answer new
rope_added by old new (Ok r) answer added gives =
    rw added.0 (gives.0, (refl, (added.1.0 ∙ ap (λ c. old.ropes ++ c ∷ []) gives.1, added.1.1)))
rope_added by old new (Err r) answer added gives = rw added.0 (gives, added.1)

-- and so does a command that adds a slot
pub slot_added : (by : Rule Cell) (old new : Cells) (made : Result Text Refusal) (answer : RopeReply)
    → MatchResult made (λ t. AddsSlot old (text Utf8 t.bytes) answer new) (λ r. IsRefused old r answer new)
    → GivesBy by (λ t. text Utf8 t.bytes) made → RopeReplied (λ old. with_effect (AddsSlot old) by) old answer new
slot_added by old new (Ok t) answer added gives =
    rw added.0 (gives.0, (refl, (added.1.0 ∙ ap (λ c. old.slots ++ c ∷ []) gives.1, added.1.1)))
slot_added by old new (Err r) answer added gives = rw added.0 (gives, added.1)
