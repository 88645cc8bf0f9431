use Rattle.std.proofs.Common.{ℕ, rules, of_calls, arith, sym}
use Rattle.std.specs.Prelude.{nat_le}
use Rattle.std.proofs.lemmas.List.Sorted.{IsPartitionPoint-from_clause}
use Rattle.tendril_decode.specs.declared.tables.gb18030_ranges.TheConstants.{GB18030_RANGES}
use Rattle.tendril_decode.proofs.Gb18030Steps.{IsLast, is_last, ranges_parted, code_fits}
use Rattle.tendril_decode.proofs.gb18030.range_code.Goals as goal

last : (c : goal.After-first-1) → IsLast GB18030_RANGES (0, 0) c.args.pointer c.partition_point-after.result
last c =
    let p = c.args.pointer in
    let after = c.partition_point-after.result in
    is_last (0, 0) p after
    (IsPartitionPoint-from_clause (λ (r : ℕ × ℕ). nat_le r.0 p) GB18030_RANGES after
    c.partition_point-after.ensures.partitioned (ranges_parted p) (λ a r f k. search (rules, of_calls)))
    c.partition_point-after.ensures.bound (omega arith)

pub overflow_sub-first : goal.overflow_sub-first
overflow_sub-first c =
    let p = c.args.pointer in
    let after = c.partition_point-after.result in
    (is_last (0, 0) p after
    (IsPartitionPoint-from_clause (λ (r : ℕ × ℕ). nat_le r.0 p) GB18030_RANGES after
    c.partition_point-after.ensures.partitioned (ranges_parted p) (λ a r f k. search (rules, of_calls)))
    c.partition_point-after.ensures.bound (omega arith)).some

pub overflow_sub-result : goal.overflow_sub-result
overflow_sub-result c = (last c).begins

pub overflow_add-result : goal.overflow_add-result
overflow_add-result c = code_fits _ (last c).scalar

pub returns-clause-value : goal.returns-clause-value
returns-clause-value c = sym (last c).code

pub returns-clause-scalar : goal.returns-clause-scalar
returns-clause-scalar c = (last c).scalar
