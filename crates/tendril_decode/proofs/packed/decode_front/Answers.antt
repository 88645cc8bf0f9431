use Rattle.std.proofs.Common.{◌+◌, ◌<◌, ◌≤◌, ◌++◌, take, slice_index, refl, ap, ◌∙◌, arith}
use Rattle.tendril_decode.specs.Packed.{entry_len}
use Rattle.tendril_decode.specs.Single.{single_byte}
use Rattle.tendril_decode.proofs.ByteSteps.{broken_done, scalar_done}
use Rattle.tendril_decode.proofs.SingleSteps.{front_done}
use Rattle.tendril_decode.proofs.packed.decode_front.Goals as goal

pub returns-then-entry-eq0-clause-decodes : goal.returns-then-entry-eq0-clause-decodes
returns-then-entry-eq0-clause-decodes c =
    let s = c.args.encoding in
    let input = c.args.input.now in
    let n = c.min-count.result in
    let read = c.args.from + n in
    let text = take (c.args.start + n) c.put_block-end.new.out in
    let few : n ≤ 15 = omega (arith, c.min-count.ensures) in
    let small : slice_index input read < 256 = omega (arith, c.type_inv.input read) in
    let p = c.requires.packed.each (slice_index input read) small in
    λ d. broken_done (single_byte s) s s s input text read (omega (arith, c.requires.within))
    (front_done s input c.block_at-block.result c.put_block-end.new.out c.args.out.now c.args.from c.args.start n
    c.put_block-end.result (omega (arith, few)) c.requires.within (omega (arith, c.requires.room))
    (omega (arith, c.put_block-end.ensures.place)) c.block_at-block.ensures c.put_block-end.ensures.bytes
    (λ k lt. c.leading_ascii.ensures.ascii k (omega (arith, c.min-count.ensures))) d)
    (p.broken c.if-entry-eq0.true) refl

pub returns-clause-decodes : goal.returns-clause-decodes
returns-clause-decodes c =
    let s = c.args.encoding in
    let input = c.args.input.now in
    let n = c.min-count.result in
    let read = c.args.from + n in
    let text = take (c.args.start + n) c.put_block-end.new.out in
    let out = take c.put_packed.result c.put_packed.new.out in
    let few : n ≤ 15 = omega (arith, c.min-count.ensures) in
    let small : slice_index input read < 256 = omega (arith, c.type_inv.input read) in
    let p = c.requires.packed.each (slice_index input read) small in
    let some : 0 < entry_len (slice_index c.args.entries.now (slice_index input read)) =
    omega (arith, c.if-entry-eq0.false) in
    let ch = p.char some in
    λ d. scalar_done (single_byte s) s s s input text read (omega (arith, c.requires.within))
    (front_done s input c.block_at-block.result c.put_block-end.new.out c.args.out.now c.args.from c.args.start n
    c.put_block-end.result (omega (arith, few)) c.requires.within (omega (arith, c.requires.room))
    (omega (arith, c.put_block-end.ensures.place)) c.block_at-block.ensures c.put_block-end.ensures.bytes
    (λ k lt. c.leading_ascii.ensures.ascii k (omega (arith, c.min-count.ensures))) d)
    ch.0 out (c.put_packed.ensures.bytes ∙ ap (λ l. text ++ l) ch.3) ch.1 ch.2 refl
