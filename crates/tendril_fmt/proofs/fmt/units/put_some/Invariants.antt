use Rattle.std.proofs.Common.{◌≡◌, ◌+◌, ◌++◌, length, take}
use Rattle.tendril_fmt.specs.Wtf8.{wtf8}
use Rattle.tendril_fmt.proofs.fmt.units.put_some.Given as goal

abbrev pub invariant-loop-rest : goal.invariant-loop-rest
invariant-loop-rest l = record {
  place : l.at + length (wtf8 l.rest) ≡ length l.bytes;
  written : take l.at l.bytes ++ wtf8 l.rest ≡ take l.start l.fn.bytes ++ wtf8 l.units;
}

abbrev pub decreases-loop-rest : goal.decreases-loop-rest
decreases-loop-rest l = length l.rest
