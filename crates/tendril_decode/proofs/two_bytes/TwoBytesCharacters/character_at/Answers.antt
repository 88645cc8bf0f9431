use Rattle.std.proofs.Common.{sym, ◌∙◌, arith}
use Rattle.tendril_decode.proofs.TwoByteSteps.{one_character, two_character}
use Rattle.tendril_decode.proofs.two_bytes.TwoBytesCharacters.character_at.Goals as goal

pub returns-in-Character : goal.returns-in-Character
returns-in-Character g c =
    one_character g.row.E.Denot g.E.LeadTrail.first g.E.LeadTrail.pair c.args.input.now c.args.at c.in-Character.code
    c.requires.within c.requires.high (sym c.first.ensures.value ∙ c.in-Character.is) c.in-Character.ensures.fits.0
    c.in-Character.ensures.fits.1

pub returns-in-One : goal.returns-in-One
returns-in-One g c =
    two_character g.row.E.Denot g.E.LeadTrail.first g.E.LeadTrail.pair c.args.input.now c.args.at c.in-One.code
    (omega arith) c.requires.high (sym c.first.ensures.value ∙ c.in-Lead.is)
    (sym c.pair.ensures.value ∙ c.in-One.is) c.in-One.ensures.fits
