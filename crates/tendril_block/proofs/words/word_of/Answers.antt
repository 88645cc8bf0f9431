use Rattle.std.proofs.Common.{arith}
use Rattle.tendril_block.proofs.ShortWords.{halves_of_4, halves_of_8}
use Rattle.tendril_block.proofs.words.word_of.Goals as goal

pub returns-in-Some-Some : goal.returns-in-Some-Some
returns-in-Some-Some c =
    halves_of_8 c.args.bytes.now c.from-in-Some-Some.result c.from.result (grind arith) c.requires
    (λ i. (c.type_inv.bytes i).fits) (grind arith) (grind arith) (grind arith) (grind arith)

pub returns-in-Some-Some-2 : goal.returns-in-Some-Some-2
returns-in-Some-Some-2 c =
    halves_of_4 c.args.bytes.now c.from-in-Some-Some-2-2.result c.from-in-Some-Some-2.result (grind arith) (grind arith)
    (λ i. (c.type_inv.bytes i).fits) (grind arith) (grind arith) (grind arith) (grind arith)
