use Rattle.std.proofs.Common.{arith}
use Rattle.tendril_fmt.proofs.Decodings.{encoded-bounds, one_byte}
use Rattle.tendril_fmt.proofs.futf.decode.code_point_of.Goals as goal

pub returns-in_default : goal.returns-in_default
returns-in_default c = λ k top e. let b = encoded-bounds _ k e in absurd (omega (arith, c.in_default.len_below))

pub returns-in_default-2 : goal.returns-in_default-2
returns-in_default-2 c = λ k top e. let b = one_byte _ k top e c.in-len1.len_below in
    absurd (omega (arith, c.if-a-lt128.false))

pub returns-in_default-3 : goal.returns-in_default-3
returns-in_default-3 c = λ k top e. let b = encoded-bounds _ k e in absurd (omega (arith, c.in_default.len_at_least))
