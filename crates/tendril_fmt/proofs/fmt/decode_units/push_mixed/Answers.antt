use Rattle.std.proofs.Common.{ℕ, ◌<◌, ◌+◌, ◌++◌, map, take, ap, ◌∙◌, arith, slice_index}
use Rattle.std.specs.Simd.Lanes.{chunk}
use Rattle.tendril_fmt.specs.Units.{starts, unit_of_bytes_at}
use Rattle.tendril_fmt.proofs.UnitFronts.{block_byte, pushes}
use Rattle.tendril_fmt.proofs.UnitWalks.{walked}
use Rattle.tendril_fmt.proofs.fmt.decode_units.push_mixed.Goals as goal

pub returns-clause-pushes : goal.returns-clause-pushes
returns-clause-pushes c =
    let bytes = c.args.bytes.now in
    let block = chunk 0 16 bytes in
    let can = c.requires.can in
    let count = c.count_continuations.ensures in
    let few : (k : ℕ) → k < 8 → slice_index block k < 0xF0 =
    λ k lt. omega (arith, c.requires.short k lt, block_byte bytes k (omega arith)) in
    pushes _ _ bytes (map (unit_of_bytes_at block) (starts 0 (take 8 block))) (8 + c.count_continuations.result)
    (omega arith)
    (omega (arith, count.few, can.block))
    (walked bytes can.valid can.block few c.count_continuations.result count.few count.belong count.stops)
    (c.push_first.ensures.items ∙ ap (λ l. c.args.units.now.items ++ l) c.units_of_mixed-count.ensures.units)
