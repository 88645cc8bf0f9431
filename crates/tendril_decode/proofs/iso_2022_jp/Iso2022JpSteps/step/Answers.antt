use Rattle.std.proofs.Common.{rules}
use Rattle.tendril_decode.proofs.JisSteps.{owed_fit}
use Rattle.tendril_decode.proofs.iso_2022_jp.Iso2022JpSteps.step.Goals as goal

pub returns-in-Owed-clause-step : goal.returns-in-Owed-clause-step
returns-in-Owed-clause-step c =
    let owed = owed_fit c.args.self.now c.in-Owed.code c.requires c.in-Owed.is in
    (owed.0, search rules, search rules, search rules)
