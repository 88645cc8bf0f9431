use Rattle.std.proofs.Common.{◌≡◌, false, map}
use Rattle.tendril.specs.Cuts.{LinesSoFar}
use Rattle.tendril_bench.proofs.lines.split_lines.Given as goal

abbrev pub invariant-loop-line : goal.invariant-loop-line
invariant-loop-line l = record {
  can_next : goal.iterator-loop-line.can_next l.line-iterator;
  is_finite : goal.iterator-loop-line.is_finite l.line-iterator;
  goes_on : l.line-iterator.is_refused ≡ false;
  so_far : LinesSoFar (map (λ line. line.bytes) l.lines.items) l.fn.text.bytes l.line-iterator.rest.bytes;
}
