use Rattle.tendril_fmt.proofs.Parts.{IsFrontOf-take}
use Rattle.tendril_fmt.proofs.cuts.slices.is_front_valid.Goals as goal

pub returns : goal.returns
returns g c = c.validate_prefix.ensures c.args.bytes.now c.requires.valid (IsFrontOf-take c.args.bytes.now c.args.count)
