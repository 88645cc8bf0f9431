use Rattle.tendril_fmt.proofs.Sequences.{none_far}
use Rattle.tendril_fmt.proofs.futf.classify.Goals as goal

pub returns-in-None-2-clause-none : goal.returns-in-None-2-clause-none
returns-in-None-2-clause-none c = none_far _ _ c.if-idx-lt3.false c.in-None.ensures
