use Rattle.std.proofs.Common.{arith, sym, ◌∙◌}
use Rattle.tendril_decode.proofs.JisSteps.{single_character, jis_character}
use Rattle.tendril_decode.proofs.iso_2022_jp.character_at.Goals as goal
use Rattle.tendril_decode.proofs.iso_2022_jp.character_at.Goals.{in-Jis0208, in_default}

pub returns-then-not-matches : goal.returns-then-not-matches
returns-then-not-matches c =
    let code = c.in_ok-code.code in
    single_character c.args.set c.args.input.now c.args.at code c.requires c.if-byte-eq-ESCAPE.false
    c.in_ok-code.ensures.value c.in_ok-code.ensures.scalar (omega arith)

pub returns : goal.returns
returns c =
    let code = c.jis_code-code in
    jis_character c.args.set c.args.input.now c.args.at code.result
    (elim c.match-matches.branch [
      | in-Jis0208 w ↦ w.in-Jis0208.is
      | in_default w ↦ absurd (cc w.matches-is)
    ])
    (omega (arith, c.requires, c.if-at-input.false))
    (sym c.is_jis.ensures ∙ c.if-not-is_jis.false) code.ensures.value c.if-code-eq0.false code.ensures.scalar
    code.ensures.small
