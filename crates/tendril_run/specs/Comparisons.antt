-- Comparisons of two cells, and their replies.
use Rattle.std.specs.Prelude.{ℕ, ◌≡◌, List, nat_eq, if◌then◌else◌}
use Rattle.std.specs.Cmp.Lexicographic.{pointwise, slice_cmp}
use Rattle.std.specs.Ordering.{nat_cmp}
use Rattle.std.specs.declared.cmp.Ordering.{Ordering}
use Rattle.std.specs.declared.cmp.Ordering.TheVariants as ordering
use Rattle.tendril_errors.specs.declared.refusal.Refusal.TheVariants.{WrongFormat}
use Rattle.tendril_run.specs.Cells.{Cell, is_ordered}
use Rattle.tendril_run.specs.OneCell.{on_told}
use Rattle.tendril_run.specs.Rules.{Rule, always, first}
use Rattle.tendril_lines.specs.declared.command.Comparison.{Comparison}
use Rattle.tendril_lines.specs.declared.command.Comparison.TheVariants.{Less, Equal, Greater, Differ}
use Rattle.tendril_lines.specs.declared.kind.Kind.{Kind}
use Rattle.tendril_lines.specs.declared.command.Reply.{Reply}
use Rattle.tendril_lines.specs.declared.command.Reply.TheVariants.{Compared}

-- the reply for an order
abbrev pub in_order : Ordering → Comparison
in_order ordering.Less = Less
in_order ordering.Equal = Equal
in_order ordering.Greater = Greater

-- the comparison of two texts of a format: the order of their bytes, or only whether they are equal
abbrev pub comparison_in : Kind → List ℕ → List ℕ → Comparison
comparison_in kind b y =
    if is_ordered kind then in_order (slice_cmp nat_cmp b y) else (if pointwise nat_eq b y then Equal else Differ)

-- the rule of the reply that compares two cells
abbrev pub compare_rule : Cell → Cell → Rule Reply
compare_rule cell other =
    on_told (λ kind b. on_told (λ format y.
    first (kind ≡ format) WrongFormat (always (Compared (comparison_in kind b y)))) other) cell
