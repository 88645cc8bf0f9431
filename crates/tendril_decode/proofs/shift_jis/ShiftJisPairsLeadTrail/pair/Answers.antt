use Rattle.std.proofs.Common.{◌+◌, sym, ap, ap₂, ◌∙◌}
use Rattle.std.proofs.lemmas.Bool.{cond-true, cond-false}
use Rattle.tendril_decode.specs.ShiftJis.{sjis_char, sjis_pair}
use Rattle.tendril_decode.specs.TwoBytes.{pair_of}
use Rattle.tendril_decode.proofs.shift_jis.ShiftJisPairsLeadTrail.pair.Goals as goal

pub returns-then-not-is_trail-clause-value : goal.returns-then-not-is_trail-clause-value
unfolding sjis_pair
returns-then-not-is_trail-clause-value c = sym (cond-false _ _ _ (sym c.if-not-is_trail.ensures))

pub returns-clause-value : goal.returns-clause-value
unfolding sjis_pair
returns-clause-value c =
    c.pair_of.ensures.value
    ∙ ap pair_of (c.char_at.ensures.value
    ∙ ap₂ (λ r k. sjis_char (r + k)) c.row_of.ensures.value c.cell_of.ensures.value)
    ∙ sym (cond-true _ _ _ (sym c.if-not-is_trail.ensures))
