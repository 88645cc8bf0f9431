use Rattle.std.proofs.Common.{◌≡◌, ◌+◌, ◌-◌, arith}
use Rattle.tendril_fmt.proofs.Parts.{IsSliceOf-take_drop}
use Rattle.tendril_fmt.proofs.cuts.slices.is_slice_valid.Goals as goal

pub returns : goal.returns
returns g c =
    let count : c.args.offset + c.args.count - c.args.offset ≡ c.args.count = omega arith in
    (rw count at c.validate_subseq.ensures) c.args.bytes.now c.requires.valid
    (IsSliceOf-take_drop c.args.bytes.now c.args.offset c.args.count)
