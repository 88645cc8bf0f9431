use Rattle.std.proofs.Common.{rules, length, ◌≤◌}
use Rattle.std.specs.Char.{encode_utf8}
use Rattle.tendril_decode.proofs.Lengths.{four_at_most}
use Rattle.tendril_decode.proofs.gb18030.Gb18030.step_after_third.Goals as goal

pub returns-else-code-eq0-clause-step : goal.returns-else-code-eq0-clause-step
returns-else-code-eq0-clause-step c =
    let short : length (encode_utf8 c.ranges_code-code.result) ≤ 4 = four_at_most c.ranges_code-code.result in
    search rules
