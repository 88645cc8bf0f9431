use Rattle.std.proofs.Common.{◌+◌, ◌-◌, ◌*◌, slice_index, sym, ap, ◌∙◌}
use Rattle.std.proofs.lemmas.Bool.{cond-true, cond-false}
use Rattle.tendril_decode.specs.Gb18030.{two_bytes_code}
use Rattle.tendril_decode.specs.declared.tables.gb18030.TheConstants.{GB18030}
use Rattle.tendril_decode.proofs.gb18030.two_bytes_code.Goals as goal

pub returns-then-not-is_trail-clause-value : goal.returns-then-not-is_trail-clause-value
unfolding two_bytes_code
returns-then-not-is_trail-clause-value c = sym (cond-false _ _ _ (sym c.if-not-is_trail.ensures))

pub returns-clause-value : goal.returns-clause-value
unfolding two_bytes_code
returns-clause-value c =
    c.gb18030_at.ensures.value
    ∙ ap (λ k. slice_index GB18030 ((c.args.first - 0x81) * 190 + k)) c.trail_cell.ensures.value
    ∙ sym (cond-true _ _ _ (sym c.if-not-is_trail.ensures))
