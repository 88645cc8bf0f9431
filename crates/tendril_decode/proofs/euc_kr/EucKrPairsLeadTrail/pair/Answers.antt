use Rattle.std.proofs.Common.{sym, ap, ◌∙◌}
use Rattle.std.proofs.lemmas.Bool.{cond-true, cond-false}
use Rattle.tendril_decode.specs.EucKr.{kr_pair}
use Rattle.tendril_decode.specs.TwoBytes.{pair_of}
use Rattle.tendril_decode.proofs.euc_kr.EucKrPairsLeadTrail.pair.Goals as goal

pub returns-then-not-in_range-clause-value : goal.returns-then-not-in_range-clause-value
unfolding kr_pair
returns-then-not-in_range-clause-value c = sym (cond-false _ _ _ (sym c.if-not-in_range.ensures))

pub returns-clause-value : goal.returns-clause-value
unfolding kr_pair
returns-clause-value c =
    c.pair_of.ensures.value ∙ ap pair_of c.euc_kr_at.ensures.value
    ∙ sym (cond-true _ _ _ (sym c.if-not-in_range.ensures))
