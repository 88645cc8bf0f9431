use Rattle.rope_text.proofs.Sharing.{IsSharing}
use Rattle.rope_text.proofs.rope.part.share.Given as goal

abbrev pub invariant-loop-left : goal.invariant-loop-left
invariant-loop-left g l = IsSharing l.pieces.items l.first l.from l.count l.index l.at l.left l.rope.bytes l.rope.pieces

abbrev pub decreases-loop-left : goal.decreases-loop-left
decreases-loop-left g l = l.left
