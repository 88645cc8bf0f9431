use Rattle.std.proofs.Common.{arith, sym, ◌∙◌}
use Rattle.tendril_decode.proofs.Gb18030Pairs.{pair_character}
use Rattle.tendril_decode.proofs.gb18030.Gb18030Characters.character_at.Goals as goal

pub returns : goal.returns
returns c =
    let code = c.two_bytes_code-code in
    pair_character c.args.input.now c.args.at code.result (omega (arith, c.requires.within, c.if-at-input.false))
    (sym c.is_lead.ensures ∙ c.if-not-is_lead.false) code.ensures.value c.if-code-eq0.false code.ensures.scalar
    code.ensures.small
