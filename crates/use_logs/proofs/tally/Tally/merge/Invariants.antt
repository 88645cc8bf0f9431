use Rattle.std.proofs.Common.{◌≡◌, ◌+◌}
use Rattle.std.specs.Prelude.{sum_by}
use Rattle.std.specs.Map.{values_of}
use Rattle.use_logs.specs.Totals.{requests_of, sizes_of}
use Rattle.use_logs.specs.declared.traffic.Traffic.{Traffic}
use Rattle.use_logs.proofs.tally.Tally.merge.Given as goal

abbrev pub invariant-loop-path : goal.invariant-loop-path
invariant-loop-path l = record {
  can_next : goal.iterator-loop-path.can_next l.path-iterator;
  is_finite : goal.iterator-loop-path.is_finite l.path-iterator;
  malformed : l.self.malformed ≡ l.fn.self.malformed + l.fn.other.malformed;
  replaced : l.self.replaced ≡ l.fn.self.replaced + l.fn.other.replaced;
  requests : requests_of l.self + sum_by (λ (x : Traffic). x.requests) (values_of l.path-iterator)
      ≡ requests_of l.fn.self + requests_of l.fn.other;
  bytes : sizes_of l.self + sum_by (λ (x : Traffic). x.bytes) (values_of l.path-iterator)
      ≡ sizes_of l.fn.self + sizes_of l.fn.other;
}
