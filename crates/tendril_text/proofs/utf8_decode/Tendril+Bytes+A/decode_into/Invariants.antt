use Rattle.std.proofs.Common.{length}
use Rattle.tendril_text.specs.Receivers.{PassesUpTo}
use Rattle.tendril_text.proofs.utf8_decode.Tendril+Bytes+A.decode_into.Given as goal

abbrev pub invariant-loop-text : goal.invariant-loop-text
invariant-loop-text g l =
    g.W.Receiving.is_ready l.receiver × PassesUpTo g.W.Receiving.takes l.fn.self l.self l.fn.receiver l.receiver

abbrev pub decreases-loop-text : goal.decreases-loop-text
decreases-loop-text g l = length l.self.bytes
