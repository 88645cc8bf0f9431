use Rattle.std.proofs.Common.{◌∙◌, sym}
use Rattle.tendril_fmt.proofs.SetBytes.{has_member}
use Rattle.tendril_fmt.proofs.cuts.byte_set.ByteSet.new.Goals as goal

pub returns : goal.returns
returns c b =
    let has = has_member c.members_of.result c.members_of.ensures.ascii b in
    (λ is. (c.members_of.ensures.members b).0 (sym has ∙ is), λ among. has ∙ (c.members_of.ensures.members b).1 among)
