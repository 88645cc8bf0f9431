use Rattle.tendril_decode.proofs.Entries.{scalar-jis0212}
use Rattle.tendril_decode.proofs.indexes.jis0212_at.Goals as goal

pub returns-clause-scalar : goal.returns-clause-scalar
returns-clause-scalar c = scalar-jis0212 c.args.pointer
