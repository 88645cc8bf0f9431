use Rattle.std.proofs.Common.{◌≡◌, ◌-◌, ◌<◌, ◌≤◌, length, take, drop, subst, sym, ap, ◌∙◌, arith}
use Rattle.std.specs.Prelude.{IsUtf8}
use Rattle.std.proofs.lemmas.List.{length-drop, nil_from_length}
use Rattle.tendril_queue.proofs.Across.{left_loses, left_queue, left_valid, rest_loses, rest_of_all, rest_valid}
use Rattle.tendril_text.specs.TextLists.{bytes_of_all}
use Rattle.tendril_queue.proofs.eat.drop_front.Goals as goal

pub pop_front-requires-clause-valid : goal.pop_front-requires-clause-valid
pop_front-requires-clause-valid g c =
    let t = c.args.first.now in
    let xs = c.args.rest.now.items in
    let len = ap length c.as_byte_slice-here.ensures.value in
    let short : c.args.count < length t.bytes = omega (arith, len, c.if-count-here.true) in
    left_valid t xs c.args.count c.requires.queue short c.requires.valid

pub returns-then-count-here-clause-queue : goal.returns-then-count-here-clause-queue
returns-then-count-here-clause-queue g c =
    let t = c.args.first.now in
    let xs = c.args.rest.now.items in
    let len = ap length c.as_byte_slice-here.ensures.value in
    let short : c.args.count < length t.bytes = omega (arith, len, c.if-count-here.true) in
    left_queue t xs c.args.count c.requires.queue short c.requires.valid c.pop_front.new.self c.pop_front.ensures.bytes

pub returns-then-count-here-clause-texts : goal.returns-then-count-here-clause-texts
returns-then-count-here-clause-texts g c =
    let t = c.args.first.now in
    let xs = c.args.rest.now.items in
    let len = ap length c.as_byte_slice-here.ensures.value in
    let short : c.args.count < length t.bytes = omega (arith, len, c.if-count-here.true) in
    left_loses t xs c.args.count c.requires.queue short c.requires.valid c.pop_front.new.self c.pop_front.ensures.bytes
    c.pop_front.ensures.copied

pub drop_in-requires-clause-valid : goal.drop_in-requires-clause-valid
drop_in-requires-clause-valid g c =
    let t = c.args.first.now in
    let xs = c.args.rest.now.items in
    let len = ap length c.as_byte_slice-here.ensures.value in
    let long : length t.bytes ≤ c.args.count = omega (arith, len, c.if-count-here.false) in
    subst (λ n. IsUtf8 (take (c.args.count - n) (bytes_of_all xs))) (sym len)
    (rest_valid t xs c.args.count c.requires.queue long c.requires.valid)

pub returns-clause-bytes : goal.returns-clause-bytes
returns-clause-bytes g c =
    let t = c.args.first.now in
    let xs = c.args.rest.now.items in
    let len = ap length c.as_byte_slice-here.ensures.value in
    let long : length t.bytes ≤ c.args.count = omega (arith, len, c.if-count-here.false) in
    let ys = c.drop_in.new.texts.items in
    let left = c.pop_front-2.new.self in
    let zs = c.refill.new.rest.items in
    let size = ap length c.pop_front-2.ensures.bytes ∙ length-drop (length c.as_byte_slice-here.result.now) t.bytes in
    let none = nil_from_length left.bytes (omega (arith, size, len)) in
    rest_of_all t xs c.args.count c.requires.queue long ys left c.refill.new.first zs (subst
    (λ n. bytes_of_all ys ≡ drop (c.args.count - n) (bytes_of_all xs)) len c.drop_in.ensures.bytes) none
    c.refill.ensures.texts

pub returns-clause-texts : goal.returns-clause-texts
returns-clause-texts g c =
    let t = c.args.first.now in
    let xs = c.args.rest.now.items in
    let len = ap length c.as_byte_slice-here.ensures.value in
    let long : length t.bytes ≤ c.args.count = omega (arith, len, c.if-count-here.false) in
    let ys = c.drop_in.new.texts.items in
    let left = c.pop_front-2.new.self in
    let zs = c.refill.new.rest.items in
    let size = ap length c.pop_front-2.ensures.bytes ∙ length-drop (length c.as_byte_slice-here.result.now) t.bytes in
    let none = nil_from_length left.bytes (omega (arith, size, len)) in
    rest_loses t xs c.args.count c.requires.queue long ys left c.refill.new.first zs none c.refill.ensures.texts
    c.drop_in.ensures.texts
