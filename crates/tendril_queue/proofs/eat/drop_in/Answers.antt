use Rattle.std.proofs.Common.{◌<◌, ◌-◌, length, subst, sym, ap, arith}
use Rattle.std.specs.Prelude.{IsUtf8}
use Rattle.tendril_queue.proofs.Dropped.{IsDropping, cuts_valid, dropped_within, dropping_more}
use Rattle.tendril_queue.proofs.Fronts.{same_first}
use Rattle.tendril_text.proofs.TextLists.{some_texts}
use Rattle.tendril_queue.proofs.eat.drop_in.Goals as goal
use Rattle.tendril_text.specs.Texts.{Text}

pub pop_front-requires-clause-valid : goal.pop_front-requires-clause-valid
pop_front-requires-clause-valid g c =
    let ys = c.loop-left.texts.items in
    let d = c.loop-left.invariant in
    let t = c.index_mut.result.now in
    let some = some_texts ys (c.loop-left.left - 1) (let there = d.there in omega arith) in
    let same = same_first ys c.index.result.now t some c.index.ensures c.index_mut.ensures.value in
    let len = ap length c.as_byte_slice-first.ensures.value in
    let short : c.loop-left.left < length c.index.result.now.bytes = omega arith in
    cuts_valid c.args.texts.now.items ys t c.args.count c.loop-left.left some c.index_mut.ensures.value
    (subst (λ (x : Text). c.loop-left.left < length x.bytes) same short) d

pub returns-then-left-first-clause-each : goal.returns-then-left-first-clause-each
returns-then-left-first-clause-each g c =
    let ys = c.loop-left.texts.items in
    let d = c.loop-left.invariant in
    let t = c.index_mut.result.now in
    let some = some_texts ys (c.loop-left.left - 1) (let there = d.there in omega arith) in
    let same = same_first ys c.index.result.now t some c.index.ensures c.index_mut.ensures.value in
    let len = ap length c.as_byte_slice-first.ensures.value in
    let short : c.loop-left.left < length c.index.result.now.bytes = omega arith in
    let less = subst (λ (x : Text). c.loop-left.left < length x.bytes) same short in
    let valid = cuts_valid c.args.texts.now.items ys t c.args.count c.loop-left.left some c.index_mut.ensures.value
    less d in
    (dropped_within c.args.texts.now.items ys t c.pop_front.new.self c.args.count c.loop-left.left some
    c.index_mut.ensures.value less d
    c.pop_front.ensures.bytes c.pop_front.ensures.copied (subst IsUtf8 (sym c.pop_front.ensures.bytes) valid)).0

pub returns-then-left-first-clause-texts : goal.returns-then-left-first-clause-texts
returns-then-left-first-clause-texts g c =
    let ys = c.loop-left.texts.items in
    let d = c.loop-left.invariant in
    let t = c.index_mut.result.now in
    let some = some_texts ys (c.loop-left.left - 1) (let there = d.there in omega arith) in
    let same = same_first ys c.index.result.now t some c.index.ensures c.index_mut.ensures.value in
    let len = ap length c.as_byte_slice-first.ensures.value in
    let short : c.loop-left.left < length c.index.result.now.bytes = omega arith in
    let less = subst (λ (x : Text). c.loop-left.left < length x.bytes) same short in
    let valid = cuts_valid c.args.texts.now.items ys t c.args.count c.loop-left.left some c.index_mut.ensures.value
    less d in
    (dropped_within c.args.texts.now.items ys t c.pop_front.new.self c.args.count c.loop-left.left some
    c.index_mut.ensures.value less d
    c.pop_front.ensures.bytes c.pop_front.ensures.copied (subst IsUtf8 (sym c.pop_front.ensures.bytes) valid)).2

pub loop-left-preserved : goal.loop-left-preserved
loop-left-preserved g c =
    let xs = c.args.texts.now.items in
    let ys = c.loop-left.texts.items in
    let d = c.loop-left.invariant in
    let t = c.index.result.now in
    let some = some_texts ys (c.loop-left.left - 1) (let there = d.there in omega arith) in
    let len = ap length c.as_byte_slice-first.ensures.value in
    let more = dropping_more xs ys t c.args.count c.loop-left.left some c.index.ensures (omega arith) d in
    subst (λ n. IsDropping xs c.pop_front-in-loop-left.new.self.items c.args.count (c.loop-left.left - n)) (sym len)
    (subst (λ l. IsDropping xs l c.args.count (c.loop-left.left - length t.bytes))
    (sym c.pop_front-in-loop-left.ensures.rest) more)
