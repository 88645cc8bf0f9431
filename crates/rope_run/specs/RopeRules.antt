-- Rules of one rope, by the reply to a call.
use Rattle.std.specs.Prelude.{◌≡◌}
use Rattle.tendril_lines.specs.declared.command.Reply.{Reply}
use Rattle.tendril_lines.specs.declared.command.Reply.TheVariants.{Done}
use Rattle.tendril_run.specs.Rules.{Rule, with_effect, Follows, answer_of}

-- a call replies with an error of its rule and changes nothing, or replies `said` and leaves what the rule says
abbrev pub Answered : {X : Type 0} → (X → Rule X) → (X → Reply) → X → Reply → X → Type 0
Answered by said old reply new =
    Follows (λ x. with_effect (λ left answer y. (answer ≡ said x) × (y ≡ left)) (by x)) old (answer_of reply) new

-- such a call, whose reply is `Done` or an error
abbrev pub Changed : {X : Type 0} → (X → Rule X) → X → Reply → X → Type 0
Changed by old reply new = Answered by (λ x. Done) old reply new
