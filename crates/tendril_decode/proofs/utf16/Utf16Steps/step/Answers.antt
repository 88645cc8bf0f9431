use Rattle.std.proofs.Common.{rules, ap, arith}
use Rattle.tendril_decode.specs.Utf16.{lead_weight}
use Rattle.tendril_decode.proofs.Lengths.{three_at_most, four_at_most}
use Rattle.tendril_decode.proofs.utf16.Utf16Steps.step.Goals as goal

pub returns-in-Some-lead-clause-step : goal.returns-in-Some-lead-clause-step
returns-in-Some-lead-clause-step g c =
    let kept = ap lead_weight c.in-Some-lead.is in
    (c.pair_code.ensures.scalar, search rules, search rules, omega (arith, kept, four_at_most c.pair_code.result))

pub returns-else-is_trail-clause-step : goal.returns-else-is_trail-clause-step
returns-else-is_trail-clause-step g c =
    let few = three_at_most c.unit_of-unit.result (omega arith) in
    (search rules, search rules, search rules, omega (arith, few))
