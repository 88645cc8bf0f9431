use Rattle.tendril_decode.proofs.Entries.{scalar-jis0208}
use Rattle.tendril_decode.proofs.indexes.jis0208_at.Goals as goal

pub returns-clause-scalar : goal.returns-clause-scalar
returns-clause-scalar c = scalar-jis0208 c.args.pointer
