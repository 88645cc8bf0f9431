use Rattle.std.proofs.Common.{◌+◌, subst, sym}
use Rattle.std.specs.Prelude.{IsUtf8}
use Rattle.tendril_fmt.proofs.Pieces.{ends_first_line}
use Rattle.tendril_fmt.specs.Cuts.{EndsFirstLine}
use Rattle.tendril_text.proofs.search.Tendril+UTF8+A.first_line_len.Goals as goal

pub returns-clause-some : goal.returns-clause-some
returns-clause-some g c =
    let value = c.as_byte_slice.ensures.value in
    let at = c.in_ok-at.at in
    subst (λ b. EndsFirstLine b (at + 1)) value (ends_first_line c.as_byte_slice.result.now at
    (subst IsUtf8 (sym value) c.as_byte_slice.ensures.valid) c.in_ok-at.ensures.0 c.in_ok-at.ensures.1)
