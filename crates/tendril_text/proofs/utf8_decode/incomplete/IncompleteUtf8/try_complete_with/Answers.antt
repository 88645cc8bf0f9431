use Rattle.std.proofs.Common.{◌∙◌, sym, subst, ap, arith}
use Rattle.tendril_text.proofs.HandsOn.{Says, says_text, says_replacement}
use Rattle.tendril_text.proofs.utf8_decode.incomplete.IncompleteUtf8.try_complete_with.Goals.{in-Ok, in-Err}
use Rattle.tendril_text.proofs.utf8_decode.incomplete.IncompleteUtf8.try_complete_with.Goals as goal

pub returns-clause-ok : goal.returns-clause-ok
returns-clause-ok g c =
    let k = c.args.self.now in
    let input = c.args.input.now.bytes in
    let rest = c.complete_from.new.piece.bytes in
    let says : Says k input rest c.match-completed.text.now = elim c.match-completed.branch [
      | in-Ok w ↦ says_text k input rest c.match-completed.text.now w.in-Ok.text c.in-Some.completed
          c.in-Some.ensures.completed w.in-Ok.is (ap (λ b. b.now) w.text-is ∙ w.as_str-text.ensures)
      | in-Err w ↦ says_replacement k input rest c.match-completed.text.now w.in-Err.field-0 c.in-Some.completed
          c.in-Some.ensures.completed w.in-Err.is (ap (λ b. b.now) w.text-is)
    ] in
    let handed = subst (λ t. Says k input rest t) (sym c.from_short_str.ensures.bytes) says in
    record {
      text = c.from_short_str.result;
      hands = rw c.hand.ensures at c.push_utf8.ensures;
      says = handed.1;
      short = omega (arith, c.from_short_str.ensures.copied, says.0);
      copied = c.in-Some.ensures.copied;
    }
