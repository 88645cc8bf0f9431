use Rattle.std.proofs.Common.{◌≡◌, rules, length, ◌≤◌}
use Rattle.std.specs.Char.{encode_utf8}
use Rattle.tendril_decode.specs.Iso2022Jp.{jis_code}
use Rattle.tendril_decode.proofs.Lengths.{three_at_most}
use Rattle.tendril_decode.proofs.JisSteps.{escape_none}
use Rattle.tendril_decode.proofs.iso_2022_jp.Iso2022Jp.step_trail.Goals as goal

pub returns-then-byte-eq-ESCAPE-clause-step : goal.returns-then-byte-eq-ESCAPE-clause-step
returns-then-byte-eq-ESCAPE-clause-step c =
    let none : jis_code c.args.lead c.args.byte ≡ 0 = escape_none c.args.lead c.args.byte c.if-byte-eq-ESCAPE.true in
    search rules

pub returns-else-code-eq0-clause-step : goal.returns-else-code-eq0-clause-step
returns-else-code-eq0-clause-step c =
    let code = c.jis_code-code in
    let short : length (encode_utf8 code.result) ≤ 3 = three_at_most code.result code.ensures.small in
    search rules
