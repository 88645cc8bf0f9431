use Rattle.std.proofs.Common.{rules, ◌≡◌, ℕ, ◌+◌, ◌*◌, Bool, List, ◌++◌, [], append-nil, ap, ◌∙◌, take, drop, sym}
use Rattle.std.proofs.Common.{subst, arith}
use Rattle.std.specs.Char.{encode_utf8}
use Rattle.std.specs.Str.{encode_utf8_all}
use Rattle.tendril_decode.specs.Machines.{DecodesTo}
use Rattle.tendril_decode.specs.Utf16.{utf16}
use Rattle.tendril_decode.specs.Utf16Blocks.{first_units}
use Rattle.tendril_decode.proofs.Utf16Steps.{unit_done, pair_done, block_done, length-rest}
use Rattle.tendril_decode.proofs.Lengths.{four_at_most}
use Rattle.tendril_decode.proofs.utf16.decode_units.Goals as goal

pub put_code_point-at-requires-clause-fits : goal.put_code_point-at-requires-clause-fits
put_code_point-at-requires-clause-fits c = omega (arith, c.loop-read.invariant.room, four_at_most c.pair_code.result)

pub put_code_point-at-requires-then-block-eq0-clause-fits : goal.put_code_point-at-requires-then-block-eq0-clause-fits
put_code_point-at-requires-then-block-eq0-clause-fits c =
    omega (
      arith,
      c.loop-read.invariant.room,
      c.decode_block-block.ensures.written,
      c.if-block-eq0.true,
      c.decode_block-block.auto.out,
      four_at_most c.unit_of-unit.result,
    )

pub loop-read-preserved-then-is_lead : goal.loop-read-preserved-then-is_lead
loop-read-preserved-then-is_lead c =
    let input = c.args.input.now in
    let read = c.loop-read.read in
    let p = c.pair_code in
    record {
      from = omega arith;
      within = omega arith;
      room = omega (
        arith,
        c.loop-read.invariant.room,
        c.put_code_point-at.ensures.place,
        four_at_most p.result,
      );
      decodes = λ n s d.
          subst (λ l. DecodesTo (utf16 c.args.big) s input l [] (utf16 c.args.big).start (drop (read + 4) input))
          (sym c.put_code_point-at.ensures.bytes)
          (pair_done n c.args.big s input (take c.loop-read.at c.loop-read.out) read c.unit_of-unit.result (omega arith)
          c.unit_of-unit.ensures (c.loop-read.invariant.decodes n s d) (sym c.if-is_lead.ensures) c.unit_of-next.result
          (omega arith) c.unit_of-next.ensures (sym c.if-not-is_trail.ensures) p.result p.ensures.value
          p.ensures.scalar);
    }

-- where no block was decoded, what was written before stays
same_text : (old new rest : List ℕ) (big : Bool) (at end count : ℕ) → count ≡ 0
    → take end new ≡ take at old ++ encode_utf8_all (first_units big rest count) → take end new ≡ take at old
same_text old new rest big at end count none e =
    e ∙ ap (λ n. take at old ++ encode_utf8_all (first_units big rest n)) none ∙ append-nil (take at old)

pub loop-read-preserved-then-block-eq0 : goal.loop-read-preserved-then-block-eq0
loop-read-preserved-then-block-eq0 c =
    let big = c.args.big in
    let input = c.args.input.now in
    let read = c.loop-read.read in
    let u = c.unit_of-unit.result in
    let put = c.put_code_point-at-then-block-eq0 in
    let block = c.decode_block-block in
    let text = take c.loop-read.at c.loop-read.out in
    let same =
    same_text c.loop-read.out block.new.out _ big c.loop-read.at block.result.end block.result.count c.if-block-eq0.true
    block.ensures.bytes in
    record {
      from = omega arith;
      within = omega arith;
      room = omega (
        arith,
        c.loop-read.invariant.room,
        block.ensures.written,
        c.if-block-eq0.true,
        put.ensures.place,
        four_at_most u,
      );
      decodes = λ n s d.
          subst (λ l. DecodesTo (utf16 big) s input l [] (utf16 big).start (drop (read + 2) input))
          (sym (put.ensures.bytes ∙ ap (λ l. l ++ encode_utf8 u) same))
          (unit_done n big s input text read u (omega arith) c.unit_of-unit.ensures
          (c.loop-read.invariant.decodes n s d) (sym c.if-is_lead.ensures) (sym c.if-is_trail.ensures) (search rules));
    }

pub loop-read-preserved : goal.loop-read-preserved
loop-read-preserved c =
    let big = c.args.big in
    let input = c.args.input.now in
    let read = c.loop-read.read in
    let block = c.decode_block-block in
    record {
      from = omega arith;
      within = omega (arith, block.ensures.read, length-rest input read);
      room = omega (arith, c.loop-read.invariant.room, block.ensures.written);
      decodes = λ n s d.
          subst (λ l. DecodesTo (utf16 big) s input l [] (utf16 big).start (drop (read + 2 * block.result.count) input))
          (sym block.ensures.bytes)
          (block_done n big s input (take c.loop-read.at c.loop-read.out) read block.result.count (omega arith)
          block.ensures.read block.ensures.scalars (c.loop-read.invariant.decodes n s d));
    }
