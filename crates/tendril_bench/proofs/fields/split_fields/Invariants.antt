use Rattle.std.proofs.Common.{◌≡◌, ℕ, true, map}
use Rattle.tendril.specs.Sets.{has_byte}
use Rattle.tendril.specs.Cuts.{SplitsSoFar}
use Rattle.tendril_bench.proofs.fields.split_fields.Given as goal

abbrev pub invariant-loop-field : goal.invariant-loop-field
invariant-loop-field l = record {
  can_next : goal.iterator-loop-field.can_next l.field-iterator;
  is_finite : goal.iterator-loop-field.is_finite l.field-iterator;
  comma : has_byte l.field-iterator.set.now 44 ≡ true;
  no_other : (b : ℕ) → has_byte l.field-iterator.set.now b ≡ true → b ≡ 44;
  so_far : SplitsSoFar (has_byte l.field-iterator.set.now) (map (λ field. field.bytes) l.fields.items) l.fn.line.bytes
      l.field-iterator.rest.bytes l.field-iterator.is_over;
}
