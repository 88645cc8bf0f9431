use Rattle.std.proofs.Common.{◌-◌, ◌≤◌, length}
use Rattle.tendril_stream.proofs.Filled.{Filled}
use Rattle.tendril_stream.proofs.fill.fill.Given as goal

abbrev pub invariant-loop-filled : goal.invariant-loop-filled
invariant-loop-filled g l = record {
  filled : Filled g.R.CountedRead.history g.R.CountedRead.remaining l.fn.reader l.fn.text.bytes l.made l.filled
      l.text.bytes l.reader;
  within : l.filled ≤ length l.text.bytes;
  reads : l.made ≤ l.fn.max_reads;
  some : 1 ≤ l.offered;
  few : l.offered ≤ 65536;
}

abbrev pub decreases-loop-filled : goal.decreases-loop-filled
decreases-loop-filled g l = l.max_reads - l.made
