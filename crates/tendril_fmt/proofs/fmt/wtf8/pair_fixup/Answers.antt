use Rattle.std.proofs.Common.{◌≡◌, ◌≤◌, ◌∙◌, ◌+◌, ◌*◌, arith, ap, sym, encode_utf8}
use Rattle.std.specs.Char.Utf16.{surrogate_pair_char}
use Rattle.tendril_fmt.specs.Proved.Encodings.{encode_utf8_4}
use Rattle.tendril_fmt.proofs.fmt.wtf8.pair_fixup.Goals as goal

pub returns-clause-insert_bytes : goal.returns-clause-insert_bytes
returns-clause-insert_bytes c =
    let lead = c.args.lead in
    let trail = c.args.trail in
    let code : 0x1_0000 + lead * 0x400 + trail ≡ surrogate_pair_char (0xD800 + lead) (0xDC00 + trail) = omega arith in
    let low : 0x1_0000 ≤ 0x1_0000 + lead * 0x400 + trail = omega arith in
    sym (encode_utf8_4 (0x1_0000 + lead * 0x400 + trail) low) ∙ ap encode_utf8 code
