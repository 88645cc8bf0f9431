use Rattle.std.proofs.Common.{◌≡◌, List, ◌-◌, ◌≤◌, length}
use Rattle.std.specs.Prelude.{All}
use Rattle.tendril_stream.specs.Readings.{MakesReads}
use Rattle.tendril_stream.specs.Reads.{OneRead, MayReadOn}
use Rattle.tendril_transcode.specs.Transcodings.{IsReady, most_reads}
use Rattle.tendril_transcode.proofs.decode.transcode.Given as goal

abbrev pub invariant-loop-made : goal.invariant-loop-made
invariant-loop-made g l = (these : List OneRead) × All MayReadOn these × (length these ≡ l.made) × (l.made ≤ most_reads)
    × MakesReads g.R.CountedRead.history g.R.CountedRead.remaining l.fn.reader these l.reader
    × IsReady g.K.PieceDecoding.decoding l.fn.kept these (g.W.Write.contents l.fn.out) (g.W.Write.contents l.out)
    l.decoder.kept l.decoder.failed
    l.decoder.inner_sink

abbrev pub decreases-loop-made : goal.decreases-loop-made
decreases-loop-made g l = most_reads - l.made
