use Rattle.std.proofs.Common.{◌≡◌, drop, map}
use Rattle.std.specs.Char.{to_ascii_lowercase}
use Rattle.tendril_labels.specs.Labels.{lookup, row_of}
use Rattle.tendril_labels.proofs.label.find.Given as goal

-- the rows before the index don't have the label
abbrev pub invariant-loop-row : goal.invariant-loop-row
invariant-loop-row l =
    let label = map to_ascii_lowercase l.label in
    lookup (map row_of l.rows) label ≡ lookup (map row_of (drop l.row-index l.rows)) label
