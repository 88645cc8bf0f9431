-- What distinguishes the lines of ropes from one another, and from the lines of slots.
use Rattle.std.proofs.Common.{◌≡◌, ◌↔◌, ℕ, List, [], ◌∷◌, Bool, true, false, Some, bytes_eq, codes, refl, sym, ap, ◌∙◌}
use Rattle.std.specs.List.{list_any}
use Rattle.rope_run.specs.RopeLines.{OnRopes, rope_words_of}
use Rattle.rope_run.specs.declared.command.RopeCommand.{RopeCommand}
use Rattle.rope_run.specs.declared.command.RopeCommand.TheVariants.{OnSlots, RopeNew}
use Rattle.tendril_lines.specs.Lines.{words_of}
use Rattle.tendril_lines.specs.Shapes.{Spells}
use Rattle.tendril_lines.specs.declared.change.ByteEdit.TheVariants as byte_edit
use Rattle.tendril_lines.specs.declared.change.Change.TheVariants as change
use Rattle.tendril_lines.specs.declared.change.Conversion.TheVariants as conversion
use Rattle.tendril_lines.specs.declared.change.Edit.TheVariants as edit
use Rattle.tendril_lines.specs.declared.command.Command.{Command}
use Rattle.tendril_lines.specs.declared.command.Command.TheVariants.{New, Change}
use Rattle.tendril_lines.specs.declared.shape.Values.{Values}

-- the word is the verb of a command on ropes
abbrev pub is_rope_verb : List ℕ → Bool
is_rope_verb word = list_any (bytes_eq word)
    (codes "rope" ∷ codes "rpush" ∷ codes "rjoin" ∷ codes "rlen" ∷ codes "rpop" ∷ codes "rsub" ∷ codes "rtake" ∷ codes
    "rdrop" ∷ [])

slots_verb : (c : Command) → is_rope_verb (words_of c).0 ≡ false
slots_verb (New kind) = refl
slots_verb (Change slot (change.Edit edit.Clear)) = refl
slots_verb (Change slot (change.EditBytes (byte_edit.PushZeros count))) = refl
slots_verb (Change slot (change.Convert (conversion.Reinterpret kind))) = refl
slots_verb other = refl

-- no command on slots has a verb of ropes
pub not_of_slots : {X : Type 0} (c : Command) {verb : List ℕ} → is_rope_verb verb ≡ true → verb ≡ (words_of c).0 → X
not_of_slots c rope is = let k : true ≡ false = sym rope ∙ ap is_rope_verb is ∙ slots_verb c in cc

ropes_verb : (c : RopeCommand) → OnRopes c → is_rope_verb (rope_words_of c).0 ≡ true
ropes_verb (OnSlots x) on = absurd on
ropes_verb RopeNew on = refl
ropes_verb other on = refl

-- if a command on ropes has the verb and the values, no command on slots has them
pub rope_found : (verb : List ℕ) (values : Values) (made : RopeCommand)
    → ((c : RopeCommand) → (Some made ≡ Some c) ↔ (OnRopes c × Spells (rope_words_of c) verb values))
    → (c : RopeCommand) → (Some made ≡ Some c) ↔ Spells (rope_words_of c) verb values
rope_found verb values made ropes (OnSlots x) =
    let here = (ropes made).0 refl in (
      λ e. absurd ((ropes (OnSlots x)).0 e).0,
      λ spells. not_of_slots x (ropes_verb made here.0) (sym here.1.0 ∙ spells.0),
    )
rope_found verb values made ropes RopeNew = (λ e. ((ropes RopeNew).0 e).1, λ spells. (ropes RopeNew).1 (tt, spells))
rope_found verb values made ropes other = (λ e. ((ropes other).0 e).1, λ spells. (ropes other).1 (tt, spells))
