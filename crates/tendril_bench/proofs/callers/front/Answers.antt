use Rattle.std.proofs.Common.{refl}
use Rattle.tendril.specs.Proofs.Parts.{IsFrontOf-take}
use Rattle.tendril_bench.proofs.callers.front.Goals as goal

pub returns-then-validate_prefix-clause-cut : goal.returns-then-validate_prefix-clause-cut
returns-then-validate_prefix-clause-cut g c =
    let test = c.validate_prefix.ensures c.args.text.now c.requires.valid (IsFrontOf-take c.args.text.now c.args.len) in
    (test.0 c.if-validate_prefix.true, refl)
