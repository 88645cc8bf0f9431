use Rattle.std.proofs.Common.{◌≡◌, ◌<◌, ◌++◌, length, take, slice_index, ap, ◌∙◌, arith, refl}
use Rattle.std.specs.Simd.Lanes.{chunk}
use Rattle.std.proofs.lemmas.Simd.{length-chunk}
use Rattle.tendril_fmt.proofs.UnitFronts.{front_ascii, pushes, block_byte, some_counted}
use Rattle.tendril_fmt.proofs.fmt.decode_units.push_ascii.Goals as goal

pub returns-clause-pushes : goal.returns-clause-pushes
returns-clause-pushes c =
    let bytes = c.args.bytes.now in
    let block = chunk 0 16 bytes in
    let count = c.leading_ascii-count.result in
    let ascii = c.leading_ascii-count.ensures in
    let long : length block ≡ 16 = length-chunk 0 16 bytes (omega (arith, c.requires.can.block)) in
    let first : slice_index block 0 < 0x80 = omega (arith, c.requires.first, block_byte bytes 0 (omega arith)) in
    pushes _ _ bytes (take count block) count
    (some_counted (λ k. slice_index block k < 0x80) 16 count (omega arith)
    (λ lt small. omega (arith, small, ascii.stops lt)) first)
    (omega (arith, ascii.few, c.requires.can.block))
    (front_ascii bytes block count c.requires.can.valid c.requires.can.block ascii.few (omega (arith, ascii.few, long))
    ascii.ascii (λ k lt. refl))
    (c.push_first.ensures.items ∙ ap (λ l. c.args.units.now.items ++ take count l) c.units_of_ascii.ensures)
