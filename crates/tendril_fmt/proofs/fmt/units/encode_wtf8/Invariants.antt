use Rattle.std.proofs.Common.{◌≡◌, ◌+◌, ◌++◌, length, take}
use Rattle.tendril_fmt.specs.Wtf8.{wtf8}
use Rattle.tendril_fmt.proofs.fmt.units.encode_wtf8.Given as goal

abbrev pub invariant-loop-ascii : goal.invariant-loop-ascii
invariant-loop-ascii l = record {
  place : l.at + length (wtf8 l.rest) ≡ length l.bytes;
  written : take l.at l.bytes ++ wtf8 l.rest ≡ wtf8 l.units;
}

abbrev pub decreases-loop-ascii : goal.decreases-loop-ascii
decreases-loop-ascii l = length l.rest
