use Rattle.tendril_queue.proofs.Looked.{IsPassed}
use Rattle.tendril_queue.proofs.eat.look_in.Given as goal

abbrev pub invariant-loop-index : goal.invariant-loop-index
invariant-loop-index g l = IsPassed l.case l.pattern l.texts.items l.index l.at
