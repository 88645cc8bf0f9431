use Rattle.std.proofs.Common.{◌≡◌, ◌+◌, ◌<◌, ◌++◌, [], length, take, drop, slice_index, refl, ap, subst, ◌∙◌, arith}
use Rattle.tendril_decode.specs.Packed.{entry_len}
use Rattle.tendril_decode.specs.Single.{DecodesIn, single_byte}
use Rattle.tendril_decode.proofs.ByteSteps.{scalar_done}
use Rattle.tendril_decode.proofs.packed.decode_few.Goals as goal

pub loop-i-preserved : goal.loop-i-preserved
loop-i-preserved c =
    let s = c.args.encoding in
    let input = c.args.input.now in
    let read = c.args.from + c.loop-i.i in
    let text = take c.loop-i.at c.loop-i.out in
    let out = take c.put_packed-at.result c.put_packed-at.new.out in
    let b = slice_index input read in
    let small : b < 256 = omega (arith, c.type_inv.input read) in
    let p = c.requires.packed.each b small in
    let some : 0 < entry_len (slice_index c.args.entries.now b) = omega (arith, c.if-entry-eq0.false) in
    let ch = p.char some in
    let lt : read < length input = omega (arith, c.requires.within, c.loop-i-test.true) in
    let next : read + 1 ≡ c.args.from + (c.loop-i.i + 1) = omega arith in
    record {
      room = omega (arith, c.loop-i.invariant.room, c.put_packed-at.ensures.place, p.few);
      decodes = λ d.
          subst (λ n. DecodesIn s input out [] (drop n input)) next
          (scalar_done (single_byte s) s s s input text read lt (c.loop-i.invariant.decodes d) ch.0 out
          (c.put_packed-at.ensures.bytes ∙ ap (λ l. text ++ l) ch.3) ch.1 ch.2 refl);
    }
