use Rattle.std.proofs.Common.{arith, sym}
use Rattle.tendril_fmt.proofs.Decodings.{only_3, spelt_3}
use Rattle.tendril_fmt.proofs.futf.decode.code_point_3.Goals as goal
use Rattle.tendril_fmt.proofs.futf.decode.code_point_3.Goals.{then-a-lt224-via-then-a-lt224}
use Rattle.tendril_fmt.proofs.futf.decode.code_point_3.Goals.{then-a-lt224-via-else-a-lt224+then-a-ge240}
use Rattle.tendril_fmt.proofs.futf.decode.code_point_3.Goals.{then-a-lt224-via-else-a-lt224+else-a-ge240+then-not-is_continuation}
use Rattle.tendril_fmt.proofs.futf.decode.code_point_3.Goals.{then-a-lt224-via-else-a-lt224+else-a-ge240+else-not-is_continuation+then-not-is_continuation-2}

pub returns-then-a-lt224 : goal.returns-then-a-lt224
returns-then-a-lt224 c = λ k top e.
    let o = only_3 _ _ _ k top e in
    elim c.then-a-lt224.branch [
      | then-a-lt224-via-then-a-lt224 w ↦ absurd (omega arith)
      | then-a-lt224-via-else-a-lt224+then-a-ge240 w ↦ absurd (omega arith)
      | then-a-lt224-via-else-a-lt224+else-a-ge240+then-not-is_continuation w ↦ let t =
          w.is_continuation.ensures.1 o.2 in cc
      | then-a-lt224-via-else-a-lt224+else-a-ge240+else-not-is_continuation+then-not-is_continuation-2 w ↦ let t =
          w.is_continuation-else-not-is_continuation.ensures.1 o.3 in cc
    ]

pub returns-then-code-lt2048 : goal.returns-then-code-lt2048
returns-then-code-lt2048 c = λ k top e. let o = only_3 _ _ _ k top e in absurd (omega arith)

pub returns : goal.returns
returns c =
    let f = c.is_continuation.ensures.0 c.if-not-is_continuation.false in
    let g = c.is_continuation-else-not-is_continuation.ensures.0 c.if-not-is_continuation-2.false in
    (omega arith, sym (spelt_3 _ _ _ c.if-a-lt224.false c.if-a-ge240.false f g c.if-code-lt2048.false))
