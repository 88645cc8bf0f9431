use Rattle.std.proofs.Common.{◌+◌, ◌-◌, ◌*◌, sym, ap, ◌∙◌}
use Rattle.std.proofs.lemmas.Bool.{cond-true, cond-false}
use Rattle.tendril_decode.specs.Big5.{big5_at, big5_pair}
use Rattle.tendril_decode.proofs.big5.Big5PairsLeadTrail.pair.Goals as goal

pub returns-then-not-is_trail-clause-value : goal.returns-then-not-is_trail-clause-value
unfolding big5_pair
returns-then-not-is_trail-clause-value c = sym (cond-false _ _ _ (sym c.if-not-is_trail.ensures))

pub returns-clause-value : goal.returns-clause-value
unfolding big5_pair
returns-clause-value c =
    c.pair_at.ensures.value ∙ ap (λ k. big5_at ((c.args.lead - 0x81) * 157 + k)) c.cell_of.ensures.value
    ∙ sym (cond-true _ _ _ (sym c.if-not-is_trail.ensures))
