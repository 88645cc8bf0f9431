use Rattle.std.specs.Iterator.{IsFinite, size}
use Rattle.tendril_text.proofs.Taken.{Walked}
use Rattle.tendril_text.proofs.tendril.Tendril.take_items.Given as goal

abbrev pub invariant-loop-item : goal.invariant-loop-item
invariant-loop-item g l =
    g.I.Iterator.can_next l.source
    × IsFinite (g.I.Iterator.remaining l.source)
    × Walked g.I.Iterator.next_gives g.I.Item.Pushable.bytes g.F.Format.join l.fn.source l.fn.self l.source l.self

abbrev pub decreases-loop-item : goal.decreases-loop-item
decreases-loop-item g l = size (g.I.Iterator.remaining l.source)
