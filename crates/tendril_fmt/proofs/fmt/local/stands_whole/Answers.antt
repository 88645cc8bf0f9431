use Rattle.tendril_fmt.specs.Local.{IsWhole}
use Rattle.tendril_fmt.proofs.Unique.{accepts-round}
use Rattle.tendril_fmt.proofs.fmt.local.stands_whole.Goals as goal

pub returns-in-Some : goal.returns-in-Some
returns-in-Some c =
    let r = accepts-round c.args.bytes.now c.args.index IsWhole c.in-Some.found c.in-Some.ensures.found in
    let e = c.is_whole.ensures in
    (λ t. r.0 (e.0 t), λ a. e.1 (r.1 a))
