use Rattle.std.proofs.Common.{w16}
use Rattle.tendril_fmt.proofs.AsciiBlocks.{all_ascii}
use Rattle.tendril_fmt.proofs.fmt.units.are_ascii.Goals as goal

pub returns : goal.returns
returns c = (all_ascii w16 c.args.block c.fits-block.0).0
