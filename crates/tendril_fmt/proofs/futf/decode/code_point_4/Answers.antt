use Rattle.std.proofs.Common.{arith, sym}
use Rattle.tendril_fmt.proofs.Decodings.{only_4, spelt_4}
use Rattle.tendril_fmt.proofs.futf.decode.code_point_4.Goals as goal
use Rattle.tendril_fmt.proofs.futf.decode.code_point_4.Goals.{then-code-lt65536-via-then-code-lt65536}
use Rattle.tendril_fmt.proofs.futf.decode.code_point_4.Goals.{then-code-lt65536-via-else-code-lt65536+then-code-ge1114112}
use Rattle.tendril_fmt.proofs.futf.decode.code_point_4.Goals.{then-a-lt240-via-then-a-lt240}
use Rattle.tendril_fmt.proofs.futf.decode.code_point_4.Goals.{then-a-lt240-via-else-a-lt240+then-a-ge248}
use Rattle.tendril_fmt.proofs.futf.decode.code_point_4.Goals.{then-a-lt240-via-else-a-lt240+else-a-ge248+then-not-is_continuation}
use Rattle.tendril_fmt.proofs.futf.decode.code_point_4.Goals.{then-a-lt240-via-else-a-lt240+else-a-ge248+else-not-is_continuation+then-not-is_continuation-2}
use Rattle.tendril_fmt.proofs.futf.decode.code_point_4.Goals.{then-a-lt240-via-else-a-lt240+else-a-ge248+else-not-is_continuation+else-not-is_continuation-2+then-not-is_continuation-3}

pub returns-then-a-lt240 : goal.returns-then-a-lt240
returns-then-a-lt240 c = λ k top e.
    let o = only_4 _ _ _ _ k top e in
    elim c.then-a-lt240.branch [
      | then-a-lt240-via-then-a-lt240 w ↦ absurd (omega arith)
      | then-a-lt240-via-else-a-lt240+then-a-ge248 w ↦ absurd (omega arith)
      | then-a-lt240-via-else-a-lt240+else-a-ge248+then-not-is_continuation w ↦ let t =
          w.is_continuation.ensures.1 o.2 in cc
      | then-a-lt240-via-else-a-lt240+else-a-ge248+else-not-is_continuation+then-not-is_continuation-2 w ↦ let t =
          w.is_continuation-else-not-is_continuation.ensures.1 o.3 in cc
      | then-a-lt240-via-else-a-lt240+else-a-ge248+else-not-is_continuation+else-not-is_continuation-2+then-not-is_continuation-3 w ↦ let t = w.is_continuation-else-not-is_continuation-2.ensures.1 o.4 in cc
    ]

pub returns-then-code-lt65536 : goal.returns-then-code-lt65536
returns-then-code-lt65536 c = λ k top e.
    let o = only_4 _ _ _ _ k top e in
    elim c.then-code-lt65536.branch [
      | then-code-lt65536-via-then-code-lt65536 w ↦ absurd (omega arith)
      | then-code-lt65536-via-else-code-lt65536+then-code-ge1114112 w ↦ absurd (omega arith)
    ]

pub returns : goal.returns
returns c =
    let f = c.is_continuation.ensures.0 c.if-not-is_continuation.false in
    let g = c.is_continuation-else-not-is_continuation.ensures.0 c.if-not-is_continuation-2.false in
    let h = c.is_continuation-else-not-is_continuation-2.ensures.0 c.if-not-is_continuation-3.false in
    (omega arith, sym (spelt_4 _ _ _ _ c.if-a-lt240.false f g h c.if-code-lt65536.false))
