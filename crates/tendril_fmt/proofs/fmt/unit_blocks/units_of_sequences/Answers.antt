use Rattle.std.proofs.Common.{ℕ, replicate, ◌∙◌, arith, get_or}
use Rattle.tendril_fmt.proofs.UnitLanes.{add16, mul16, less16, unit_is}
use Rattle.tendril_fmt.proofs.Lanes.{lanes_divide, lanes_own, lanes_splat, lanes_zip, lanes_select, rem}
use Rattle.tendril_fmt.proofs.fmt.unit_blocks.units_of_sequences.Goals as goal

pub nonzero_rem-last : goal.nonzero_rem-last
nonzero_rem-last c = lanes_divide 8 64 c.args.second (omega arith)

pub nonzero_rem-two : goal.nonzero_rem-two
nonzero_rem-two c = lanes_divide 8 32 c.args.first (omega arith)

pub nonzero_rem-three : goal.nonzero_rem-three
nonzero_rem-three c = lanes_divide 8 16 c.args.first (omega arith)

pub nonzero_rem-three-2 : goal.nonzero_rem-three-2
nonzero_rem-three-2 c = lanes_divide 8 64 c.args.third (omega arith)

pub returns : goal.returns
returns c k lt =
    let first = c.args.first in
    let second = c.args.second in
    let third = c.args.third in
    let one = lanes_own 8 first c.fits-first.0 in
    let last = lanes_zip 8 rem second _ _ _ (lanes_own 8 second c.fits-second.0) (lanes_splat 8 64) in
    let end = lanes_zip 8 rem third _ _ _ (lanes_own 8 third c.fits-third.0) (lanes_splat 8 64) in
    let two =
    lanes_zip 8 add16 _ _ _ _
    (lanes_zip 8 mul16 _ _ _ _ (lanes_zip 8 rem _ _ _ _ one (lanes_splat 8 32)) (lanes_splat 8 64)) last in
    let three =
    lanes_zip 8 add16 _ _ _ _
    (lanes_zip 8 add16 _ _ _ _
    (lanes_zip 8 mul16 _ _ _ _ (lanes_zip 8 rem _ _ _ _ one (lanes_splat 8 16)) (lanes_splat 8 4096))
    (lanes_zip 8 mul16 _ _ _ _ last (lanes_splat 8 64)))
    end in
    let below = λ (n : ℕ). lanes_zip 8 less16 first (replicate 8 n) _ _ one (lanes_splat 8 n) in
    let all =
    lanes_select 15 8 _ _ _ _ _ _ (below 128) one (lanes_select 15 8 _ _ _ _ _ _ (below 224) two three) in
    all.lanes k lt ∙ unit_is (get_or first k 0) (get_or second k 0) (get_or third k 0)
