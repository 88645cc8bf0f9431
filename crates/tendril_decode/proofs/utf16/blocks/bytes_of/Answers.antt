use Rattle.std.proofs.Common.{◌+◌, ◌*◌, get_or, ap, sym, ◌∙◌, arith}
use Rattle.std.specs.Simd.Lanes.{chunk}
use Rattle.std.proofs.lemmas.Simd.{length-chunk, pick_l_left}
use Rattle.std.proofs.lemmas.Bool.{cond-true, cond-false}
use Rattle.tendril_decode.proofs.Utf16Blocks.{evens, odds, picked}
use Rattle.tendril_decode.proofs.utf16.blocks.bytes_of.Goals as goal
use Rattle.tendril_decode.proofs.utf16.blocks.bytes_of.Goals.{then-second, else-second}

pub returns-clause-bytes : goal.returns-clause-bytes
returns-clause-bytes c = λ k lt.
    let block = c.args.block.now in
    let bytes = chunk 0 32 block in
    let long = length-chunk 0 32 block (omega arith) in
    elim c.if-second.branch [
      | then-second w ↦
          ap (λ l. get_or l k 0) (w.result-is ∙ pick_l_left 0 bytes bytes 32 odds long tt)
          ∙ picked block 16 k (λ j. 2 * j + 1) c.requires lt (omega arith) ∙ sym (cond-true _ _ _ w.if-second.true)
      | else-second w ↦
          ap (λ l. get_or l k 0) (w.result-is ∙ pick_l_left 0 bytes bytes 32 evens long tt)
          ∙ picked block 16 k (λ j. 2 * j) c.requires lt (omega arith) ∙ sym (cond-false _ _ _ w.if-second.false)
    ]
