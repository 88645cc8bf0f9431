use Rattle.std.proofs.Common.{◌*◌, take, slice_index, subst, sym, arith}
use Rattle.std.specs.Simd.Lanes.{chunk}
use Rattle.tendril_fmt.specs.Units.{LeadsThree}
use Rattle.tendril_fmt.proofs.UnitFronts.{front_threes, pushes, block_byte, some_counted}
use Rattle.tendril_fmt.proofs.fmt.decode_units.push_threes.Goals as goal

pub returns-clause-pushes : goal.returns-clause-pushes
returns-clause-pushes c =
    let bytes = c.args.bytes.now in
    let count = c.count_threes-count.result in
    let us = c.units_of_threes.result in
    let threes = c.count_threes-count.ensures in
    let can = c.requires.can in
    let first = subst LeadsThree (sym (block_byte bytes 0 (omega arith))) c.requires.first in
    let some =
    some_counted (λ k. LeadsThree (slice_index (chunk 0 16 bytes) (3 * k))) 5 count (omega arith) threes.stops first in
    pushes _ _ bytes (take count us) (3 * count) (omega (arith, some)) (omega (arith, threes.few, can.block))
    (front_threes bytes us count can.valid can.block threes.few (omega (arith, threes.few)) threes.leads
    (λ k lt. c.units_of_threes.ensures k (omega (arith, threes.few))))
    c.push_first.ensures.items
