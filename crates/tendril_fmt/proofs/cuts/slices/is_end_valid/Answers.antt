use Rattle.std.proofs.lemmas.List.{take_rest}
use Rattle.tendril_fmt.proofs.Parts.{IsEndOf-drop}
use Rattle.tendril_fmt.proofs.cuts.slices.is_end_valid.Goals as goal

pub returns : goal.returns
returns g c = (rw (take_rest c.args.bytes.now c.args.offset) at c.validate_suffix.ensures) c.args.bytes.now
    c.requires.valid (IsEndOf-drop c.args.bytes.now c.args.offset)
