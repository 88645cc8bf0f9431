use Rattle.std.proofs.Common.{◌≡◌, ◌+◌, ◌≤◌, ◌++◌, length, vec_len, vec_capacity}
use Rattle.tendril_fmt.specs.Wtf8.{IsWtf8, units}
use Rattle.tendril_fmt.proofs.fmt.decode_units.decode_wtf8.Given as goal

abbrev pub invariant-loop-rest : goal.invariant-loop-rest
invariant-loop-rest l = record {
  valid : IsWtf8 l.rest;
  room : vec_len l.all + length l.rest ≤ vec_capacity l.all;
  given : l.all.items ++ units l.rest ≡ l.fn.units.items ++ units l.bytes;
}

abbrev pub decreases-loop-rest : goal.decreases-loop-rest
decreases-loop-rest l = length l.rest
