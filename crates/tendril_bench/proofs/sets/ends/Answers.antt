use Rattle.std.proofs.Common.{arith}
use Rattle.tendril.specs.SetMembers.TheVariants.{Two}
use Rattle.tendril.specs.Proofs.SetBytes.{has_members}
use Rattle.tendril_bench.proofs.sets.ends.Goals as goal

pub returns : goal.returns
returns c = has_members (Two 44 10) (omega arith, omega arith)
