use Rattle.std.proofs.Common.{◌≡◌, ◌+◌, ◌≤◌, ◌++◌, length, vec_len, vec_capacity}
use Rattle.tendril_fmt.specs.Wtf8.{IsWtf8, units}
use Rattle.tendril_fmt.proofs.fmt.decode_units.push_rest.Given as goal

abbrev pub invariant-loop-code : goal.invariant-loop-code
invariant-loop-code l = record {
  valid : IsWtf8 l.rest;
  room : vec_len l.units + length l.rest ≤ vec_capacity l.units;
  given : l.units.items ++ units l.rest ≡ l.fn.units.items ++ units l.bytes;
}

abbrev pub decreases-loop-code : goal.decreases-loop-code
decreases-loop-code l = length l.rest
