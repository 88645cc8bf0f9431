use Rattle.std.proofs.Common.{ℕ, ◌-◌, List, length, min, arith}
use Rattle.tendril_block.proofs.WordCovers.{word_put, words_cover}
use Rattle.tendril_block.proofs.words.copy_few.Goals as goal

pub returns : goal.returns
returns c =
    let xs : List ℕ = c.args.bytes.now in
    let n : ℕ = length xs - 8 in
    let p : List ℕ = c.args.place.now in
    let a : List ℕ = c.copy_word.new.place in
    let b : List ℕ = c.copy_word-2.new.place in
    let d : List ℕ = c.copy_word-3.new.place in
    let e : List ℕ = c.copy_word-4.new.place in
    let f : List ℕ = c.copy_word-5.new.place in
    words_cover n xs p a b d e f (omega arith) (omega arith) (omega arith)
    (word_put 0 xs p a (omega arith) c.copy_word.ensures)
    (word_put (min n 8) xs a b (omega arith) (rw c.min.ensures at c.copy_word-2.ensures))
    (word_put (min n 16) xs b d (omega arith) (rw c.min-2.ensures at c.copy_word-3.ensures))
    (word_put (min n 24) xs d e (omega arith) (rw c.min-3.ensures at c.copy_word-4.ensures))
    (word_put n xs e f (omega arith) c.copy_word-5.ensures)
