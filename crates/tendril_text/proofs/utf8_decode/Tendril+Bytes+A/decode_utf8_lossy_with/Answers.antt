use Rattle.std.proofs.Common.{◌∙◌, ◌<◌, None, Some, length, sym, subst, arith}
use Rattle.std.proofs.lemmas.Bool.Decides.{nat_tests}
use Rattle.std.proofs.lemmas.List.{nil_from_length}
use Rattle.std.proofs.lemmas.Result.{err_from_is_err_and}
use Rattle.tendril_text.proofs.HandsOn.{decodes, handed_up_to}
use Rattle.tendril_text.proofs.utf8_decode.Tendril+Bytes+A.decode_utf8_lossy_with.Goals as goal

pub returns-in_err-kept-clause-err : goal.returns-in_err-kept-clause-err
returns-in_err-kept-clause-err g c =
    let p = err_from_is_err_and c.from_residual.result c.from_residual.ensures.1 in
    rw p.1 (handed_up_to _ c.args.self.now c.decode_into.new.self c.args.push_utf8.now c.decode_into.new.receiver _
    c.in_err-kept.ensures.err)

pub returns-in-empty-clause-ok : goal.returns-in-empty-clause-ok
returns-in-empty-clause-ok g c =
    let h = c.in_ok-kept.ensures.ok in
    let below = c.in-empty.len_below in
    decodes _ c.args.self.now c.decode_into.new.self c.args.push_utf8.now c.decode_into.new.receiver None h.0 h.1
    (sym h.2 ∙ sym c.kept.ensures.bytes ∙ nil_from_length c.kept.result.now (grind (arith, nat_tests, below)))

pub returns-in_default-clause-ok : goal.returns-in_default-clause-ok
returns-in_default-clause-ok g c =
    let h = c.in_ok-kept.ensures.ok in
    let least = c.in_default.len_at_least in
    let some : 0 < length c.kept.result.now = grind (arith, nat_tests, least) in
    decodes _ c.args.self.now c.decode_into.new.self c.args.push_utf8.now c.decode_into.new.receiver
    (Some c.in_ok-kept.kept) h.0 h.1 (h.2, subst (λ l. 0 < length l) c.kept.ensures.bytes some)
