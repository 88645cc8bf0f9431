use Rattle.std.proofs.Common.{◌≡◌, ◌+◌, length}
use Rattle.use_logs.specs.Totals.{lines_of}
use Rattle.use_logs.proofs.tally.Tally.count_all.Given as goal

abbrev pub invariant-loop-line : goal.invariant-loop-line
invariant-loop-line l = record {
  can_next : goal.iterator-loop-line.can_next l.line-iterator;
  is_finite : goal.iterator-loop-line.is_finite l.line-iterator;
  lines : lines_of l.tally + length l.line-iterator.rest.items ≡ lines_of l.fn.self + length l.fn.batch.lines.items;
  replaced : l.tally.replaced ≡ l.fn.self.replaced + l.fn.batch.replaced;
}
