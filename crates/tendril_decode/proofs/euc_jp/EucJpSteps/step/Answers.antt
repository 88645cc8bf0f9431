use Rattle.std.proofs.Common.{sym}
use Rattle.tendril_decode.proofs.EucJpSteps.{lead_step, second_step}
use Rattle.tendril_decode.proofs.euc_jp.EucJpSteps.step.Goals as goal

pub returns-else-begins_jis0212-clause-step : goal.returns-else-begins_jis0212-clause-step
returns-else-begins_jis0212-clause-step c =
    lead_step c.args.self.now c.in-Lead.lead c.args.byte c.pair.result c.step.result c.step.ensures c.pair.ensures.fits
    c.in-Lead.is (sym c.if-begins_jis0212.ensures) c.pair.ensures.value

pub returns-in-SecondLead-clause-step : goal.returns-in-SecondLead-clause-step
returns-in-SecondLead-clause-step c =
    second_step c.args.self.now c.in-SecondLead.lead c.args.byte c.jis0212_pair.result c.step-in-SecondLead.result
    c.step-in-SecondLead.ensures c.jis0212_pair.ensures.fits c.in-SecondLead.is c.jis0212_pair.ensures.value
