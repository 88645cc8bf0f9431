use Rattle.std.proofs.Common.{arith, sym}
use Rattle.tendril_fmt.proofs.Decodings.{only_2, spelt_2}
use Rattle.tendril_fmt.proofs.futf.decode.code_point_2.Goals as goal
use Rattle.tendril_fmt.proofs.futf.decode.code_point_2.Goals.{then-a-lt194-via-then-a-lt194}
use Rattle.tendril_fmt.proofs.futf.decode.code_point_2.Goals.{then-a-lt194-via-else-a-lt194+then-a-ge224}
use Rattle.tendril_fmt.proofs.futf.decode.code_point_2.Goals.{then-a-lt194-via-else-a-lt194+else-a-ge224+then-not-is_continuation}

pub returns-then-a-lt194 : goal.returns-then-a-lt194
returns-then-a-lt194 c = λ k top e.
    let o = only_2 _ _ k top e in
    elim c.then-a-lt194.branch [
      | then-a-lt194-via-then-a-lt194 w ↦ absurd (omega arith)
      | then-a-lt194-via-else-a-lt194+then-a-ge224 w ↦ absurd (omega arith)
      | then-a-lt194-via-else-a-lt194+else-a-ge224+then-not-is_continuation w ↦ let t =
          w.is_continuation.ensures.1 o.2 in cc
    ]

pub returns : goal.returns
returns c =
    let f = c.is_continuation.ensures.0 c.if-not-is_continuation.false in
    (omega arith, sym (spelt_2 _ _ c.if-a-lt194.false c.if-a-ge224.false f))
