use Rattle.std.proofs.Common.{rules, length, ◌≤◌, arith}
use Rattle.std.specs.Char.{encode_utf8}
use Rattle.tendril_decode.proofs.Lengths.{three_at_most}
use Rattle.tendril_decode.proofs.gb18030.Gb18030.step_after_first.Goals as goal

pub returns-then-code-ne0-clause-step : goal.returns-then-code-ne0-clause-step
returns-then-code-ne0-clause-step c =
    let code = c.two_bytes_code-code.result in
    let short : length (encode_utf8 code) ≤ 3 = three_at_most code (omega arith) in
    search rules
