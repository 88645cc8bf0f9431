use Rattle.std.proofs.Common.{sym, subst, ap, ◌∙◌}
use Rattle.tendril_text.specs.Writes.{IsPrinted}
use Rattle.tendril_text.proofs.Prints.{at_ok, at_text, printed}
use Rattle.tendril_text.proofs.tendril.print.Printer.print_value.Goals as goal

pub returns : goal.returns
returns g c =
    at_ok c.write-printed.result (λ ok. at_text (g.T.Display.output c.args.value.now) (λ bs k.
    subst (λ p. IsPrinted bs p.text.bytes p.refused) (sym c.into_inner.ensures)
    (printed (λ p. p.text.bytes) (λ p. p.refused) _ bs _
    (ap (λ p. p.refused) c.new-formatter.ensures.writer)
    (ap (λ p. p.text.bytes) c.new-formatter.ensures.writer ∙ c.new.ensures.bytes)
    (k c.new-formatter.ensures.plain ok).wrote))
    c.write-printed.ensures.writes)
