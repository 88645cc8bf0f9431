use Rattle.std.proofs.Common.{arith}
use Rattle.std.proofs.lemmas.Bool.Decides.{nat_tests}
use Rattle.std.proofs.lemmas.Str.{length-encode}
use Rattle.tendril_fmt.proofs.fmt.units.encoded_len.Goals as goal

pub returns-then-unit-lt2048-clause-bytes : goal.returns-then-unit-lt2048-clause-bytes
returns-then-unit-lt2048-clause-bytes c = grind (arith, nat_tests, length-encode)

pub returns-else-unit-lt2048-clause-bytes : goal.returns-else-unit-lt2048-clause-bytes
returns-else-unit-lt2048-clause-bytes c = grind (arith, nat_tests, length-encode)
