use Rattle.std.proofs.Common.{◌≡◌, take}
use Rattle.tendril_lines.specs.Words.{big_endian}
use Rattle.tendril_lines.proofs.unit_list.hex_of_units.Given as goal

abbrev pub invariant-loop-unit : goal.invariant-loop-unit
invariant-loop-unit l = l.bytes.items ≡ big_endian (take l.unit-index l.units)
