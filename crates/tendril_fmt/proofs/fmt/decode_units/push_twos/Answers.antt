use Rattle.std.proofs.Common.{◌*◌, take, slice_index, arith}
use Rattle.std.specs.Simd.Lanes.{chunk}
use Rattle.tendril_fmt.specs.Units.{LeadsTwo}
use Rattle.tendril_fmt.proofs.UnitFronts.{front_twos, pushes, block_byte, some_counted}
use Rattle.tendril_fmt.proofs.UnitSplits.{First-holds}
use Rattle.tendril_fmt.proofs.fmt.decode_units.push_twos.Goals as goal

pub returns-clause-pushes : goal.returns-clause-pushes
returns-clause-pushes c =
    let bytes = c.args.bytes.now in
    let count = c.count_twos-count.result in
    let us = c.units_of_twos.result in
    let twos = c.count_twos-count.ensures in
    let can = c.requires.can in
    let is = block_byte bytes 0 (omega arith) in
    let lead = (First-holds bytes can.valid (omega (arith, can.block))).lead c.requires.first.0 in
    let some = some_counted (λ k. LeadsTwo (slice_index (chunk 0 16 bytes) (2 * k))) 8 count (omega arith) twos.stops
    (omega (arith, lead, is), omega (arith, c.requires.first.1, is)) in
    pushes _ _ bytes (take count us) (2 * count) (omega (arith, some)) (omega (arith, twos.few, can.block))
    (front_twos bytes us count can.valid can.block twos.few (omega (arith, twos.few)) twos.leads
    (λ k lt. c.units_of_twos.ensures k (omega (arith, twos.few))))
    c.push_first.ensures.items
