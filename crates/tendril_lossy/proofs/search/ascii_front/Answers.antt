use Rattle.tendril_lossy.proofs.AsciiFronts.{front-within, front-ascii, front-stops}
use Rattle.tendril_lossy.proofs.search.ascii_front.Goals as goal

pub returns-clause-within : goal.returns-clause-within
returns-clause-within c = front-within c.word_of_eight.result

pub returns-clause-ascii : goal.returns-clause-ascii
returns-clause-ascii c = front-ascii c.args.bytes.now c.word_of_eight.result c.word_of_eight.ensures
    (λ i. (c.type_inv.bytes i).fits)

pub returns-clause-stops : goal.returns-clause-stops
returns-clause-stops c = front-stops c.args.bytes.now c.word_of_eight.result c.word_of_eight.ensures
    (λ i. (c.type_inv.bytes i).fits)
