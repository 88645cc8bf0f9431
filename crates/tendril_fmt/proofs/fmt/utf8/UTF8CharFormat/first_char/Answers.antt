use Rattle.std.proofs.Common.{◌≡◌, length, sym, ◌∙◌, arith}
use Rattle.std.specs.Char.{encode_utf8}
use Rattle.tendril_fmt.specs.Proved.Characters.{IsFirstChar-utf8, IsFirstChar-utf8_ascii}
use Rattle.tendril_fmt.proofs.fmt.utf8.UTF8CharFormat.first_char.Goals as goal

pub returns-then-first-lt128-clause-first : goal.returns-then-first-lt128-clause-first
returns-then-first-lt128-clause-first c =
    IsFirstChar-utf8_ascii c.args.bytes.now c.in_ok-first.field-0.now c.requires c.in_ok-first.ensures.value
    c.if-first-lt128.true

pub returns-clause-first : goal.returns-clause-first
returns-clause-first c =
    let s = c.in_ok-character.ensures.steps in
    let made = c.char_indices-rest.ensures in
    let len : c.offset.result ≡ length (encode_utf8 c.in_ok-character.character) =
    omega (arith, c.offset.ensures, s.2, made.offset) in
    IsFirstChar-utf8 c.args.bytes.now c.next.new.self.rest.now c.in_ok-character.character c.offset.result c.requires
    (sym c.from_utf8_unchecked.ensures ∙ sym made.rest ∙ s.1) len
