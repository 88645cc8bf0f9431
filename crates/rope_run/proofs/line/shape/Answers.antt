use Rattle.std.proofs.Common.{rules, ◌≡◌, IsSomeAnd}
use Rattle.rope_run.specs.RopeLines.{rope_words_of}
use Rattle.rope_run.specs.declared.command.RopeCommand.TheVariants.{OnSlots}
use Rattle.rope_run.proofs.line.shape.Goals as goal
use Rattle.tendril_lines.specs.Shapes.{shape_of}

pub returns-in_default : goal.returns-in_default
returns-in_default c = λ k.
    elim k as (λ k. c.args.verb.now ≡ (rope_words_of k).0
    → IsSomeAnd c.shape.result (λ shape. shape.now ≡ shape_of (rope_words_of k).1)) [
      | OnSlots command ↦ λ verb. c.shape.ensures command verb
      | _ ↦ λ verb. let not : ⊥ = search rules in absurd not
    ]
