use Rattle.std.proofs.Common.{◌≡◌, ◌+◌, ◌++◌, take, vec_len, vec_capacity}
use Rattle.tendril_fmt.proofs.fmt.decode_units.push_all.Given as goal

abbrev pub invariant-loop-unit : goal.invariant-loop-unit
invariant-loop-unit l = record {
  items : l.units.items ≡ l.fn.units.items ++ take l.unit-index l.more;
  len : vec_len l.units ≡ vec_len l.fn.units + l.unit-index;
  capacity : vec_capacity l.units ≡ vec_capacity l.fn.units;
}
