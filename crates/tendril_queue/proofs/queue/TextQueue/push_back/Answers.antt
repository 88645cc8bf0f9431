use Rattle.std.proofs.Common.{◌<◌, length, sym, ap, ◌∙◌, arith, true≢false}
use Rattle.std.specs.Prelude.{is_ok}
use Rattle.tendril_queue.proofs.Fronts.{back_queue}
use Rattle.tendril_queue.proofs.queue.TextQueue.push_back.Goals as goal

pub invariant_of-self-2 : goal.invariant_of-self-2
invariant_of-self-2 g c =
    let len = ap length c.as_byte_slice.ensures.value in
    let some : 0 < length c.args.text.bytes = grind arith in
    back_queue (is_ok c.push_back.result) c.self.inside.first c.args.text c.self.inside.rest.items
    c.push_back.new.self.items
    c.push_back.ensures.items c.self.invariant
    (λ none. true≢false (sym (c.is_empty-2.ensures.1 none) ∙ c.if-is_empty-2.false))
    (record { some = some; valid = c.as_byte_slice.ensures.valid })
