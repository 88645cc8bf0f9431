use Rattle.std.proofs.Common.{◌≤◌, length, arith}
use Rattle.std.specs.Char.{encode_utf8}
use Rattle.tendril_decode.proofs.Lengths.{three_at_most}
use Rattle.tendril_decode.proofs.JisSteps.{single_step}
use Rattle.tendril_decode.proofs.iso_2022_jp.Iso2022Jp.step_plain.Goals as goal

pub returns-in-Some-clause-step : goal.returns-in-Some-clause-step
returns-in-Some-clause-step c =
    let code = c.in-Some.code in
    let step =
    single_step c.args.self.now c.args.byte code c.requires c.if-byte-eq-ESCAPE.false c.in-Some.ensures.value in
    let short : length (encode_utf8 code) ≤ 3 = three_at_most code (omega arith) in
    (c.in-Some.ensures.scalar, step.0, step.1, omega arith)
