use Rattle.std.proofs.Common.{◌≡◌, ◌+◌, length}
use Rattle.tendril_fmt.specs.Units.{bytes_behind}
use Rattle.tendril_fmt.specs.Wtf8.{wtf8}
use Rattle.tendril_fmt.proofs.fmt.units.wtf8_len.Given as goal

abbrev pub invariant-loop-rest : goal.invariant-loop-rest
invariant-loop-rest l = l.len + bytes_behind l.last l.rest ≡ length (wtf8 l.units)

abbrev pub decreases-loop-rest : goal.decreases-loop-rest
decreases-loop-rest l = length l.rest
