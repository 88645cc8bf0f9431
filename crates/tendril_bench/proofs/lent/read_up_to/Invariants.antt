use Rattle.std.proofs.Common.{◌-◌, ◌≤◌}
use Rattle.tendril.specs.Proofs.Fed.{Fed}
use Rattle.tendril_bench.proofs.lent.read_up_to.Given as goal

abbrev pub invariant-loop-made : goal.invariant-loop-made
invariant-loop-made g l = record {
  fed : Fed g.R.CountedRead.history g.R.CountedRead.remaining g.S.TendrilSink.takes l.fn.sink l.fn.reader l.made
      l.sink l.reader;
  within : l.made ≤ l.fn.max_reads;
}

abbrev pub decreases-loop-made : goal.decreases-loop-made
decreases-loop-made g l = l.max_reads - l.made
