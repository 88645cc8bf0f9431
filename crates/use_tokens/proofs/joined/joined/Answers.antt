use Rattle.std.proofs.Common.{◌≡◌, ◌+◌, ◌<◌, length, ap, ◌∙◌, arith, length-append}
use Rattle.use_tokens.proofs.Steps.{of_err}
use Rattle.use_tokens.proofs.joined.joined.Goals as goal

pub returns-in_err-append-clause-err : goal.returns-in_err-append-clause-err
returns-in_err-append-clause-err c =
    let some = c.in-Some.ensures.some in
    let left = c.pop_front.new.self.bytes in
    let size : length c.texts.input.bytes ≡ length c.in-Some.more.bytes + length left =
    ap length c.in-Some.ensures.bytes ∙ length-append c.in-Some.more.bytes left in
    let within = c.texts.invariant.within in
    of_err c.from_residual.result (0 < length c.args.input.bytes) (omega (arith, some, size, within))
