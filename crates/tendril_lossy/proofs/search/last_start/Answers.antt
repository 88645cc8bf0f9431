use Rattle.std.proofs.Common.{◌≡◌, ◌+◌, ◌-◌, take, IsUtf8, arith, subst}
use Rattle.tendril_lossy.proofs.Windows.{grow}
use Rattle.tendril_lossy.proofs.search.last_start.Goals as goal

pub returns-in-Ok-clause-text : goal.returns-in-Ok-clause-text
returns-in-Ok-clause-text c =
    let bs = c.args.bytes.now in
    let at = c.args.at in
    let end = c.char_start-end.result in
    let near = c.char_start-end.ensures in
    let many = c.if-bytes-at-le4.false in
    let e : at + (end - at) ≡ end = omega (arith, near, many) in
    subst (λ n. IsUtf8 (take n bs)) e (grow bs at (end - at) c.requires.text c.in-Ok.ensures.1)
