use Rattle.tendril_fmt.proofs.FourBytes.{utf8_front_decides}
use Rattle.tendril_fmt.proofs.fmt.utf8.UTF8Format.validate_prefix.Goals as goal

pub returns : goal.returns
returns c = λ whole v part.
    let k = utf8_front_decides c.args.bytes.now whole c.last_four.result.now v part c.last_four.ensures.four in
    let e = c.utf8_ends.ensures.ends in
    (λ t. k.1 (e.0 t), λ h. e.1 (k.0 h))
