use Rattle.tendril_fmt.proofs.AsciiBlocks.{block_fits}
use Rattle.tendril_fmt.proofs.fmt.units.put_ascii.Goals as goal

pub overflow_cast-bytes : goal.overflow_cast-bytes
overflow_cast-bytes c = block_fits c.args.units.now c.requires.ascii
