use Rattle.std.proofs.Common.{◌+◌, ◌++◌, length, take, drop, slice_index, sym, ap, ap₂, ◌∙◌, arith, append_assoc}
use Rattle.std.proofs.Common.{length-drop}
use Rattle.std.proofs.lemmas.List.{drop_more}
use Rattle.tendril_fmt.specs.Blocks.{fronts}
use Rattle.tendril_fmt.proofs.Written.{front_written}
use Rattle.tendril_fmt.proofs.blocks.put_words.Goals as goal

pub loop-len-preserved : goal.loop-len-preserved
loop-len-preserved c =
    let lens = c.args.lens.now in
    let i = c.loop-len.len-index in
    let n = slice_index lens i in
    let at = c.loop-len.at in
    let rest = c.loop-len.rest.now in
    let split = c.split_at.ensures in
    let put = c.put_run-end in
    let few = c.requires.few i in
    let before = c.loop-len.invariant in
    let more = fronts (drop 4 rest) (drop (i + 1) lens) in
    let front = take at c.loop-len.bytes in
    record {
      left = omega (arith, before.left, ap length split.back, length-drop 4 rest, c.loop-len-test.true);
      place = omega (arith, before.place, few);
      written =
          ap₂ (λ l r. l ++ fronts r (drop (i + 1) lens))
          (front_written put.new.bytes c.loop-len.bytes (take 4 rest) at n put.result
          (put.ensures.bytes ∙ ap (λ w. front ++ w) split.front)
          (omega (arith, before.place, c.requires.room, c.loop-len.auto.bytes, c.loop-len-test.true))
          (omega (arith, few, put.ensures.place, split.front_len, before.left, c.loop-len-test.true)))
          split.back
          ∙ append_assoc front (take n (take 4 rest)) more
          ∙ ap (λ l. front ++ l) (sym (ap (fronts rest) (drop_more lens i 0 c.loop-len-test.true)))
          ∙ before.written;
    }
