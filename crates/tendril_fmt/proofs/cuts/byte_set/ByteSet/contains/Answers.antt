use Rattle.std.proofs.Common.{ap, ◌∙◌, sym}
use Rattle.tendril_fmt.proofs.SetBytes.{has_member}
use Rattle.tendril_fmt.specs.Sets.{has_byte}
use Rattle.tendril_fmt.proofs.cuts.byte_set.ByteSet.contains.Goals as goal

pub returns : goal.returns
returns c =
    c.is_among.ensures ∙ sym (has_member c.self.inside.members c.self.invariant c.args.byte)
    ∙ ap (λ t. has_byte t c.args.byte) c.self.view_is
