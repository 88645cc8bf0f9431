use Rattle.std.proofs.Common.{◌≡◌, ◌++◌, length}
use Rattle.tendril_lines.specs.Words.{big_endian}
use Rattle.tendril_lines.proofs.unit_list.paired.Given as goal

abbrev pub invariant-loop-rest : goal.invariant-loop-rest
invariant-loop-rest l = l.bytes ≡ big_endian l.units.items ++ l.rest

abbrev pub decreases-loop-rest : goal.decreases-loop-rest
decreases-loop-rest l = length l.rest
