use Rattle.std.proofs.Common.{◌≡◌, ◌+◌, ◌<◌, ◌≤◌, ◌++◌, ◌∙◌, length, take, sym, ap, arith, add-zero, length-append}
use Rattle.std.proofs.lemmas.Result.{err_from_is_err_and}
use Rattle.tendril_queue.proofs.Lined.{may_join}
use Rattle.tendril_text.proofs.TextLists.{joined_more}
use Rattle.tendril_text.specs.TextLists.{bytes_of_all}
use Rattle.tendril_queue.proofs.lines.joined_line.Goals as goal

pub returns-in_err-line-clause-err : goal.returns-in_err-line-clause-err
returns-in_err-line-clause-err g c =
    let first = c.args.first.now in
    let p = err_from_is_err_and c.from_residual.result c.from_residual.ensures.1 in
    let none : 0 ≤ c.args.index = omega arith in
    rw (p.1, p.2) (may_join first c.args.texts.now.items c.args.index c.args.count c.requires.inside 0
    (length c.as_str.result.now) _ none (ap length c.as_str.ensures.value ∙ sym (add-zero (length first.bytes)))
    c.in_err-line.ensures)

pub returns-in_err-push_tendril-clause-err : goal.returns-in_err-push_tendril-clause-err
returns-in_err-push_tendril-clause-err g c =
    let first = c.args.first.now in
    let xs = c.args.texts.now.items in
    let at = c.loop-at.at in
    let t = c.index.result.now in
    let line = c.loop-at.line in
    let less = c.loop-at-test.true in
    let most = c.requires.inside in
    let inside : at < length xs = omega (arith, less, most) in
    let next : at + 1 ≤ c.args.index = omega (arith, less) in
    let so_far = bytes_of_all (take at xs) in
    let size : length (line.bytes ++ t.bytes) ≡ length first.bytes + length (bytes_of_all (take (at + 1) xs)) =
    omega (
      arith,
      length-append line.bytes t.bytes,
      ap length c.loop-at.invariant,
      length-append first.bytes so_far,
      ap length (joined_more xs at t inside c.index.ensures),
      length-append so_far t.bytes,
    ) in
    let p = err_from_is_err_and c.from_residual-in_err-push_tendril.result
    c.from_residual-in_err-push_tendril.ensures.1 in
    rw (p.1, p.2) (may_join first xs c.args.index c.args.count c.requires.inside (at + 1)
    (length (line.bytes ++ t.bytes)) _ next size c.in_err-push_tendril.ensures.outcome.0)
