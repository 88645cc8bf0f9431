use Rattle.std.proofs.Common.{arith}
use Rattle.tendril_fmt.specs.Proved.Characters.{encode_utf8-bounds}
use Rattle.tendril_text.proofs.chars.Tendril+UTF8+A.from_char.Goals as goal

pub returns-in_err-push_char-clause-ok : goal.returns-in_err-push_char-clause-ok
returns-in_err-push_char-clause-ok g c =
    absurd (grind (arith, encode_utf8-bounds c.args.character, c.in_err-push_char.ensures.outcome.0))

pub returns-clause-copied : goal.returns-clause-copied
returns-clause-copied g c = grind (arith, encode_utf8-bounds c.args.character, c.new-text.ensures.bytes)
