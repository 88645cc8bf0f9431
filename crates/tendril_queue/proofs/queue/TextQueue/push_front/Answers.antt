use Rattle.std.proofs.Common.{◌<◌, length, subst, sym, ap, ◌∙◌, arith, true≢false}
use Rattle.tendril_queue.proofs.Fronts.{front_queue}
use Rattle.tendril_queue.specs.Queues.{IsQueue}
use Rattle.tendril_queue.proofs.queue.TextQueue.push_front.Goals as goal
use Rattle.tendril_text.specs.Texts.{Text}

pub invariant_of-self-in-Ok : goal.invariant_of-self-in-Ok
invariant_of-self-in-Ok g c =
    let xs = c.self.inside.rest.items in
    let ys = c.push_front.new.self.items in
    let t = c.replace-second.result in
    let len = ap length c.as_byte_slice.ensures.value in
    let some : 0 < length c.args.text.bytes = grind arith in
    subst (λ (u : Text). IsQueue u ys) (sym c.replace-second.ensures.after) (front_queue t c.args.text xs ys
    c.in-Ok.ensures.items
    (subst (λ (x : Text). IsQueue x xs) (sym c.replace-second.ensures.value) c.self.invariant)
    (λ none. true≢false (sym (c.is_empty-2.ensures.1 none) ∙ c.if-is_empty-2.false))
    c.as_byte_slice.ensures.valid some)
