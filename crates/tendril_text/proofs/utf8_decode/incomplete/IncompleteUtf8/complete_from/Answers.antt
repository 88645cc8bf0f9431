use Rattle.std.proofs.Common.{◌≡◌, ◌∙◌, ◌-◌, length, drop, sym, subst, ap}
use Rattle.tendril_text.proofs.HandsOn.{Answers, rest_of}
use Rattle.tendril_text.proofs.utf8_decode.incomplete.IncompleteUtf8.complete_from.Goals as goal

pub overflow_sub-taken : goal.overflow_sub-taken
overflow_sub-taken g c = (rest_of c.args.self.now c.as_byte_slice-bytes.result.now c.in-Some.rest.now
    c.in-Some.completed c.in-Some.ensures.completed).0

pub returns-clause-completed : goal.returns-clause-completed
returns-clause-completed g c =
    let k = c.args.self.now in
    let is = c.as_byte_slice-bytes.ensures.value in
    let input = c.as_byte_slice-bytes.result.now in
    let rest = c.in-Some.rest.now in
    let left = rest_of k input rest c.in-Some.completed c.in-Some.ensures.completed in
    let behind : c.pop_front.new.self.bytes ≡ rest = c.pop_front.ensures.bytes
    ∙ ap (drop (length input - length rest)) (sym is) ∙ left.1 in
    let at = subst (λ i. Answers k i rest c.in-Some.completed) is c.in-Some.ensures.completed in
    subst (λ r. Answers k c.args.piece.now.bytes r c.in-Some.completed) (sym behind) at
