use Rattle.tendril_decode.proofs.Entries.{scalar-big5}
use Rattle.tendril_decode.proofs.indexes.big5_at.Goals as goal

pub returns-clause-scalar : goal.returns-clause-scalar
returns-clause-scalar c = scalar-big5 c.args.pointer
