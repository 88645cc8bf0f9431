use Rattle.std.proofs.Common.{w8}
use Rattle.tendril_fmt.proofs.AsciiBlocks.{all_ascii}
use Rattle.tendril_fmt.proofs.blocks.is_ascii.Goals as goal

pub returns : goal.returns
returns c = all_ascii w8 c.args.block c.fits-block.0
