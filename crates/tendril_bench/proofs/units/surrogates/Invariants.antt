use Rattle.std.proofs.Common.{◌≡◌, ◌+◌, ◌||◌, count_by}
use Rattle.std.specs.Char.Utf16.{is_high_surrogate, is_low_surrogate}
use Rattle.tendril.specs.Fmt.Wtf8.{units as units_of}
use Rattle.tendril_bench.proofs.units.surrogates.Given as goal

abbrev pub invariant-loop-unit : goal.invariant-loop-unit
invariant-loop-unit l = record {
  can : goal.iterator-loop-unit.can_next l.unit-iterator;
  finite : goal.iterator-loop-unit.is_finite l.unit-iterator;
  counted : l.count + count_by (λ u. is_high_surrogate u || is_low_surrogate u) l.unit-iterator
      ≡ count_by (λ u. is_high_surrogate u || is_low_surrogate u) (units_of l.fn.text.bytes);
}
