use Rattle.std.proofs.Common.{rules, length, ◌≤◌, lit<}
use Rattle.std.specs.Char.{encode_utf8}
use Rattle.tendril_decode.proofs.Lengths.{three_at_most}
use Rattle.tendril_decode.proofs.gb18030.Gb18030.step_at_start.Goals as goal

pub returns-then-byte-eq128-clause-step : goal.returns-then-byte-eq128-clause-step
returns-then-byte-eq128-clause-step c =
    let short : length (encode_utf8 0x20AC) ≤ 3 = three_at_most 0x20AC (lit< tt) in search rules
