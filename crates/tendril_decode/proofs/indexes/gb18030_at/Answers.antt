use Rattle.tendril_decode.proofs.Entries.{scalar-gb18030}
use Rattle.tendril_decode.proofs.indexes.gb18030_at.Goals as goal

pub returns-clause-scalar : goal.returns-clause-scalar
returns-clause-scalar c = scalar-gb18030 c.args.pointer
