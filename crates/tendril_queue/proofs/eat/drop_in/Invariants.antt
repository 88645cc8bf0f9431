use Rattle.tendril_queue.proofs.Dropped.{IsDropping}
use Rattle.tendril_queue.proofs.eat.drop_in.Given as goal

abbrev pub invariant-loop-left : goal.invariant-loop-left
invariant-loop-left g l = IsDropping l.initial.texts.items l.texts.items l.fn.count l.left

abbrev pub decreases-loop-left : goal.decreases-loop-left
decreases-loop-left g l = l.left
