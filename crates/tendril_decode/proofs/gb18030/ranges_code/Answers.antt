use Rattle.std.proofs.Common.{arith}
use Rattle.std.proofs.lemmas.Grind.{common_steps}
use Rattle.tendril_decode.specs.Gb18030.{ranges_code}
use Rattle.tendril_decode.proofs.gb18030.ranges_code.Goals as goal

pub returns-then-pointer-lt189000-clause-value : goal.returns-then-pointer-lt189000-clause-value
unfolding ranges_code
returns-then-pointer-lt189000-clause-value c = grind (arith, common_steps)

pub returns-then-pointer-eq7457-clause-value : goal.returns-then-pointer-eq7457-clause-value
unfolding ranges_code
returns-then-pointer-eq7457-clause-value c = grind (arith, common_steps)

pub returns-clause-value : goal.returns-clause-value
unfolding ranges_code
returns-clause-value c = grind (arith, common_steps)
