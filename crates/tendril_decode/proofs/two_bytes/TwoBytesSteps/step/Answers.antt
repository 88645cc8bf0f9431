use Rattle.std.proofs.Common.{sym, ◌∙◌}
use Rattle.tendril_decode.proofs.TwoByteSteps.{kept_step, character_step}
use Rattle.tendril_decode.proofs.two_bytes.TwoBytesSteps.step.Goals as goal

pub returns-in-Some-clause-step : goal.returns-in-Some-clause-step
returns-in-Some-clause-step g c =
    kept_step g.row.E.Denot g.E.LeadTrail.first g.E.LeadTrail.pair c.args.self.now c.in-Some.lead c.args.byte
    c.pair.result c.step.result c.step.ensures c.in-Some.is c.pair.ensures.value c.pair.ensures.fits

pub returns-in-Character-clause-step : goal.returns-in-Character-clause-step
returns-in-Character-clause-step g c =
    character_step g.row.E.Denot g.E.LeadTrail.first g.E.LeadTrail.pair c.args.self.now c.args.byte c.in-Character.code
    c.in_default.is c.if-byte-lt128.false (sym c.first.ensures.value ∙ c.in-Character.is) c.in-Character.ensures.fits.0
    c.in-Character.ensures.fits.1
