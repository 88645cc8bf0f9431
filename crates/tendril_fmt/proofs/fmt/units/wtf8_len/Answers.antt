use Rattle.std.proofs.Common.{arith}
use Rattle.tendril_fmt.proofs.UnitCounts.{bytes_behind-ascii}
use Rattle.tendril_fmt.proofs.UnitSplits.{AreUnits-slice, length-wtf8}
use Rattle.tendril_fmt.proofs.fmt.units.wtf8_len.Goals as goal

pub overflow_add-len : goal.overflow_add-len
overflow_add-len c =
    let all = length-wtf8 c.args.units.now (AreUnits-slice c.args.units.now (λ k. omega (arith, c.type_inv.units k))) in
    let more =
    bytes_behind-ascii c.loop-rest.last c.loop-rest.rest.now c.in-Some.ascii.now c.in-Some.after.now
    c.in-Some.ensures.ascii c.in-Some.ensures.block c.in-Some.ensures.split in
    let w = c.well_formed in
    omega (arith, all, c.loop-rest.invariant, more, c.in-Some.ensures.block)

pub overflow_add-len-in_default : goal.overflow_add-len-in_default
overflow_add-len-in_default c =
    let all = length-wtf8 c.args.units.now (AreUnits-slice c.args.units.now (λ k. omega (arith, c.type_inv.units k))) in
    let w = c.well_formed in
    omega (arith, all, c.loop-rest.invariant, c.count_piece-count.ensures.bytes)

pub loop-rest-preserved-in-Some : goal.loop-rest-preserved-in-Some
loop-rest-preserved-in-Some c =
    let begins = c.in-Some.ensures in
    let more =
    bytes_behind-ascii c.loop-rest.last c.loop-rest.rest.now c.in-Some.ascii.now c.in-Some.after.now begins.ascii
    begins.block begins.split in
    omega (arith, c.loop-rest.invariant, more, begins.block)
