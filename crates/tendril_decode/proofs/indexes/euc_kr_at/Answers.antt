use Rattle.tendril_decode.proofs.Entries.{scalar-euc_kr}
use Rattle.tendril_decode.proofs.indexes.euc_kr_at.Goals as goal

pub returns-clause-scalar : goal.returns-clause-scalar
returns-clause-scalar c = scalar-euc_kr c.args.pointer
