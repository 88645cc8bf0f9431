use Rattle.tendril_lines.proofs.Pairs.{big_endian-next}
use Rattle.tendril_lines.proofs.unit_list.hex_of_units.Goals as goal

pub loop-unit-preserved : goal.loop-unit-preserved
loop-unit-preserved c =
    let e = big_endian-next c.args.units.now c.loop-unit.unit-index c.loop-unit-test.true in
    let k = c.in_ok-extend_from_slice.ensures.items in
    cc
