use Rattle.std.proofs.Common.{sym, ◌∙◌}
use Rattle.std.proofs.lemmas.Bool.{cond-true, cond-false}
use Rattle.tendril_decode.specs.ShiftJis.{sjis_char}
use Rattle.tendril_decode.proofs.shift_jis.char_at.Goals as goal

pub returns-then-is_private-clause-value : goal.returns-then-is_private-clause-value
unfolding sjis_char
returns-then-is_private-clause-value c = sym (cond-true _ _ _ (sym c.if-is_private.ensures))

pub returns-clause-value : goal.returns-clause-value
unfolding sjis_char
returns-clause-value c = c.jis0208_at.ensures.value ∙ sym (cond-false _ _ _ (sym c.if-is_private.ensures))
