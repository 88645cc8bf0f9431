use Rattle.std.proofs.Common.{◌+◌, ◌≤◌, ◌++◌, length, take, sym, ap, ◌∙◌, arith, append_assoc, length-append}
use Rattle.std.specs.Simd.Lanes.{chunk}
use Rattle.std.proofs.lemmas.Simd.{length-put_chunk}
use Rattle.tendril_fmt.specs.Wtf8.{wtf8}
use Rattle.tendril_fmt.proofs.AsciiBlocks.{block_written}
use Rattle.tendril_fmt.proofs.UnitCounts.{wtf8-ascii}
use Rattle.tendril_fmt.proofs.fmt.units.encode_wtf8.Goals as goal

pub put_ascii-requires-clause-fits : goal.put_ascii-requires-clause-fits
put_ascii-requires-clause-fits c =
    let e = ap wtf8 c.in-Some.ensures.split
    ∙ wtf8-ascii c.in-Some.ascii.now c.in-Some.after.now c.in-Some.ensures.ascii in
    omega (
      arith,
      c.loop-ascii.invariant.place,
      c.in-Some.ensures.block,
      ap length e,
      length-append c.in-Some.ascii.now (wtf8 c.in-Some.after.now),
    )

pub loop-ascii-preserved-in-Some : goal.loop-ascii-preserved-in-Some
loop-ascii-preserved-in-Some c =
    let ascii = c.in-Some.ascii.now in
    let after = c.in-Some.after.now in
    let bytes = c.loop-ascii.bytes in
    let at = c.loop-ascii.at in
    let e = ap wtf8 c.in-Some.ensures.split ∙ wtf8-ascii ascii after c.in-Some.ensures.ascii in
    let same = ap length c.put_ascii.ensures ∙ length-put_chunk at bytes (chunk 0 16 ascii) in
    let room : at + 16 ≤ length bytes = omega (
      arith,
      c.loop-ascii.invariant.place,
      c.in-Some.ensures.block,
      ap length e,
      length-append ascii (wtf8 after),
    ) in
    record {
      place = omega (
        arith,
        c.loop-ascii.invariant.place,
        c.in-Some.ensures.block,
        ap length e,
        length-append ascii (wtf8 after),
        same,
      );
      written =
          ap (λ l. take (at + 16) l ++ wtf8 after) c.put_ascii.ensures
          ∙ ap (λ l. l ++ wtf8 after) (block_written bytes ascii at c.in-Some.ensures.block room)
          ∙ append_assoc (take at bytes) ascii (wtf8 after)
          ∙ ap (λ l. take at bytes ++ l) (sym e)
          ∙ c.loop-ascii.invariant.written;
    }
