use Rattle.std.proofs.Common.{length}
use Rattle.tendril_stream.proofs.LineTurns.{LinesSoFar}
use Rattle.tendril_stream.proofs.lines.send_lines.Given as goal

abbrev pub invariant-lines : goal.invariant-lines
invariant-lines g l = LinesSoFar g.S.TendrilSink.takes l.fn.line l.fn.text l.fn.sink l.sink l.line l.rest

abbrev pub decreases-lines : goal.decreases-lines
decreases-lines g l = length l.rest.bytes
