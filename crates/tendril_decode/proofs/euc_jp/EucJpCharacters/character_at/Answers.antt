use Rattle.std.proofs.Common.{◌≡◌, sym, subst, arith}
use Rattle.tendril_decode.specs.Characters.{IsCharacter}
use Rattle.tendril_decode.specs.EucJp.{euc_jp}
use Rattle.tendril_decode.specs.declared.characters.Character.{Character}
use Rattle.tendril_decode.specs.declared.euc_jp.EucJp.TheVariants.{Start}
use Rattle.tendril_decode.specs.declared.two_bytes.Pair.TheVariants.{One}
use Rattle.tendril_decode.proofs.EucJpSteps.{if_some, two_bytes_done, three_bytes_done}
use Rattle.tendril_decode.proofs.euc_jp.EucJpCharacters.character_at.Goals as goal

pub returns-then-begins_jis0212 : goal.returns-then-begins_jis0212
returns-then-begins_jis0212 c =
    let input = c.args.input.now in
    let at = c.args.at in
    let p = c.jis0212_pair.result in
    if_some (λ (k : Character). (p ≡ One k.code) × (k.len ≡ 3))
    (λ (k : Character). IsCharacter euc_jp Start input at k.code k.len)
    (λ k h. subst (IsCharacter euc_jp Start input at k.code) (sym h.1)
    (three_bytes_done input at k.code c.requires.high (sym c.if-not-is_lead.ensures) p c.jis0212_pair.ensures.fits h.0
    (omega arith) (sym c.if-begins_jis0212.ensures) c.jis0212_pair.ensures.value))
    c.character_of.result c.character_of.ensures

pub returns : goal.returns
returns c =
    let input = c.args.input.now in
    let at = c.args.at in
    let p = c.pair.result in
    if_some (λ (k : Character). (p ≡ One k.code) × (k.len ≡ 2))
    (λ (k : Character). IsCharacter euc_jp Start input at k.code k.len)
    (λ k h. subst (IsCharacter euc_jp Start input at k.code) (sym h.1)
    (two_bytes_done input at k.code c.requires.high (sym c.if-not-is_lead.ensures) p c.pair.ensures.fits h.0
    (omega arith) (sym c.if-begins_jis0212.ensures) c.pair.ensures.value))
    c.character_of-2.result c.character_of-2.ensures
