use Rattle.std.proofs.Common.{◌+◌, ◌++◌, drop, slice_index_or, ap, arith}
use Rattle.std.proofs.lemmas.List.{drop_more}
use Rattle.tendril_fmt.specs.Units.{bytes_behind}
use Rattle.tendril_fmt.proofs.UnitCounts.{bytes_behind-cons}
use Rattle.tendril_fmt.proofs.fmt.units.count_piece.Goals as goal

pub loop-unit-preserved : goal.loop-unit-preserved
loop-unit-preserved c =
    let piece = c.split_at.result.0.now in
    let after = c.split_at.result.1.now in
    let i = c.loop-unit.unit-index in
    let next = ap (λ l. bytes_behind c.loop-unit.last (l ++ after)) (drop_more piece i 0 c.loop-unit-test.true) in
    let more = bytes_behind-cons c.loop-unit.last (slice_index_or piece i 0) (drop (i + 1) piece ++ after) in
    record {
      bytes = omega (arith, c.loop-unit.invariant.bytes, next, more, c.len_behind-len.ensures.bytes);
      few = omega (arith, c.loop-unit.invariant.few, c.len_behind-len.ensures.few);
    }
