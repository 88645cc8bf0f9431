use Rattle.std.proofs.Common.{◌-◌, length, subst, sym, take}
use Rattle.tendril_fmt.specs.Cuts.{IsWithoutEnding}
use Rattle.tendril_text.proofs.tendril.Tendril.without_line_ending.Goals as goal

pub returns-clause-bytes : goal.returns-clause-bytes
returns-clause-bytes g c =
    let count = c.line_ending_len-count in
    subst (IsWithoutEnding c.args.self.bytes) (sym c.pop_back.ensures.bytes)
    (subst (λ b. IsWithoutEnding b (take (length b - count.result) b)) c.as_byte_slice.ensures.value
    count.ensures.without)
