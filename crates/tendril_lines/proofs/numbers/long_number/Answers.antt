use Rattle.std.proofs.Common.{refl, arith}
use Rattle.std.specs.Str.Parse.{ParsesUnsigned}
use Rattle.tendril_lines.proofs.Digits.{number_read}
use Rattle.tendril_lines.proofs.numbers.long_number.Goals as goal

pub returns : goal.returns
returns c n =
    let parsed : ParsesUnsigned 64 10 c.args.word.now c.parse.result =
    rw c.in_ok-text.ensures.0 at c.parse.ensures.value.0 in
    number_read 64 18446744073709551615 n c.args.word.now c.parse.result c.ok.result refl
    (omega arith) c.in_ok-text.ensures.1 parsed c.ok.ensures.value
