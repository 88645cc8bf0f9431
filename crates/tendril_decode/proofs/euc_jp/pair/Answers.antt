use Rattle.std.proofs.Common.{sym, ap, ◌∙◌}
use Rattle.std.proofs.lemmas.Bool.{cond-true, cond-false}
use Rattle.tendril_decode.specs.EucJp.{jp_pair}
use Rattle.tendril_decode.specs.TwoBytes.{pair_of}
use Rattle.tendril_decode.proofs.euc_jp.pair.Goals as goal

pub returns-then-is_katakana-clause-value : goal.returns-then-is_katakana-clause-value
unfolding jp_pair
returns-then-is_katakana-clause-value c = sym (cond-true _ _ _ (sym c.if-is_katakana.ensures))

pub returns-then-not-are_cells-clause-value : goal.returns-then-not-are_cells-clause-value
unfolding jp_pair
returns-then-not-are_cells-clause-value c =
    sym (cond-false _ _ _ (sym c.if-is_katakana.ensures) ∙ cond-false _ _ _ (sym c.if-not-are_cells.ensures))

pub returns-clause-value : goal.returns-clause-value
unfolding jp_pair
returns-clause-value c =
    c.pair_of.ensures.value ∙ ap pair_of c.jis0208_at.ensures.value
    ∙ sym (cond-false _ _ _ (sym c.if-is_katakana.ensures) ∙ cond-true _ _ _ (sym c.if-not-are_cells.ensures))
