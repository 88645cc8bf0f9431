use Rattle.std.proofs.Common.{map, sym, ◌∙◌}
use Rattle.std.specs.Char.{to_ascii_lowercase}
use Rattle.tendril_labels.proofs.Rows.{at_row}
use Rattle.tendril_labels.proofs.label.find.Goals as goal

pub returns-then-is_label : goal.returns-then-is_label
returns-then-is_label c =
    let rest =
    at_row c.args.rows.now (map to_ascii_lowercase c.args.label.now) c.loop-row.row-index _ c.is_label.result
    c.loop-row-test.true c.is_label.ensures
    in
    sym (c.loop-row.invariant ∙ (rw c.if-is_label.true at rest))

pub loop-row-preserved : goal.loop-row-preserved
loop-row-preserved c =
    let rest =
    at_row c.args.rows.now (map to_ascii_lowercase c.args.label.now) c.loop-row.row-index _ c.is_label.result
    c.loop-row-test.true c.is_label.ensures
    in
    c.loop-row.invariant ∙ (rw c.if-is_label.false at rest)
