use Rattle.std.proofs.Common.{arith}
use Rattle.std.proofs.lemmas.Grind.{common_steps}
use Rattle.tendril_decode.specs.Iso2022Jp.{jis_code}
use Rattle.tendril_decode.proofs.iso_2022_jp.codes.jis_code.Goals as goal

pub returns-then-not-is_jis-clause-value : goal.returns-then-not-is_jis-clause-value
unfolding jis_code
returns-then-not-is_jis-clause-value c = grind (arith, common_steps)

pub returns-clause-value : goal.returns-clause-value
unfolding jis_code
returns-clause-value c = grind (arith, common_steps)
