use Rattle.std.proofs.Common.{◌≡◌, ◌≢◌, ℕ, ◌<◌, List, length, get_or, set, map, sym, subst, Result}
use Rattle.tendril_errors.specs.declared.refusal.Refusal.{Refusal}
use Rattle.tendril_run.proofs.OneChanged.{within_items, taken_changed, other_cell, table_changed}
use Rattle.tendril_run.specs.Cells.{Cell, cell_at}
use Rattle.tendril_run.specs.OneCell.{join_rule}
use Rattle.tendril_run.specs.Rules.{with_effect, Changes}
use Rattle.tendril_run.specs.Steps.{TableJoined}

-- a push of one cell onto another, which was out of the table meanwhile, is a push in the table
pub joined_apart : {R S : Type 0} (f : S → Cell) (items : List S) (cells : List Cell) (to from : ℕ)
    (old more meanwhile new : S) (result : Result R Refusal)
    → map f items ≡ cells → to < length cells → from < length cells → to ≢ from
    → old ≡ get_or items to old → more ≡ get_or (set items to meanwhile) from more
    → Changes (join_rule to from (f more)) (f old) result (f new)
    → TableJoined to from cells result (map f (set (set items to meanwhile) to new))
joined_apart f items cells to from old more meanwhile new result is to_within from_within apart here there h =
    subst (λ other. Changes (λ cells. with_effect (set cells to) (join_rule to from other (cell_at cells to))) cells
    result (map f (set (set items to meanwhile) to new)))
    (sym (other_cell f items cells to from more meanwhile is (within_items f items cells from is from_within) apart
    there))
    (table_changed (join_rule to from (f more)) cells to (f old) (f new) (map f (set (set items to meanwhile) to new))
    result
    (taken_changed f items cells to old meanwhile new is (within_items f items cells to is to_within) here) h)
