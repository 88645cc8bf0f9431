use Rattle.std.proofs.Common.{◌≡◌, ◌+◌, ◌*◌, ◌≤◌, ◌++◌, drop}
use Rattle.tendril_fmt.specs.Units.{bytes_behind}
use Rattle.tendril_fmt.proofs.fmt.units.count_piece.Given as goal

abbrev pub invariant-loop-unit : goal.invariant-loop-unit
invariant-loop-unit l = record {
  bytes : l.len + bytes_behind l.last (drop l.unit-index l.piece ++ l.after) ≡ bytes_behind l.before l.units;
  few : l.len ≤ 3 * l.unit-index;
}
