use Rattle.std.proofs.Common.{ℕ, ◌-◌, List, length, take, drop, min, ap, arith}
use Rattle.tendril_block.proofs.WordCovers.{both, both_true, word_same, words_cover}
use Rattle.tendril_block.proofs.words.same_bytes.Goals as goal

pub returns : goal.returns
returns c =
    let xs : List ℕ = c.args.right.now in
    let ys : List ℕ = c.args.left.now in
    let n : ℕ = length ys - 8 in (
      λ h.
          let five = both _ _ h in
          let four = both _ _ five.0 in
          let three = both _ _ four.0 in
          let two = both _ _ three.0 in
          words_cover n xs ys ys ys ys ys ys (omega arith) (omega arith) c.requires
          (word_same 0 xs ys (c.same_word.ensures.0 two.0))
          (word_same (min n 8) xs ys (rw c.min.ensures at (c.same_word-2.ensures.0 two.1)))
          (word_same (min n 16) xs ys (rw c.min-2.ensures at (c.same_word-3.ensures.0 three.1)))
          (word_same (min n 24) xs ys (rw c.min-3.ensures at (c.same_word-4.ensures.0 four.1)))
          (word_same n xs ys (c.same_word-5.ensures.0 five.1)),
      λ e.
          let word = λ (at : ℕ). ap (λ v. take 8 (drop at v)) e in
          both_true _ _
          (both_true _ _
          (both_true _ _ (both_true _ _ (c.same_word.ensures.1 (word 0)) (c.same_word-2.ensures.1 (word c.min.result)))
          (c.same_word-3.ensures.1 (word c.min-2.result)))
          (c.same_word-4.ensures.1 (word c.min-3.result)))
          (c.same_word-5.ensures.1 (word n)),
    )
