use Rattle.std.proofs.Common.{◌≡◌, ◌≢◌, ℕ, ◌<◌, List, length, get_or, set, map, ap, refl, sym, subst, ◌∙◌, None, Result}
use Rattle.std.proofs.Common.{Ok, Err, Bool, true, false, if◌then◌else◌, [], ◌∷◌, ◌++◌, All}
use Rattle.std.proofs.lemmas.List.{map-set, map-append, set-set, get_or-map, get_or-set_other, length-map}
use Rattle.std.proofs.lemmas.List.Elements.{All-set, All-push, All-get_or}
use Rattle.std.proofs.Math.Seq.{map-set_same}
use Rattle.tendril_errors.specs.declared.refusal.Refusal.{Refusal}
use Rattle.std.specs.Result.{MatchResult}
use Rattle.tendril_errors.specs.Outcomes.{Refused}
use Rattle.tendril_run.specs.Cells.{Cell, IsCell, gone, cell_at}
use Rattle.tendril_run.specs.Steps.{AddsCell}
use Rattle.tendril_run.specs.Rules.{Rule, with_effect, Changes, Follows, GivesBy}
use Rattle.tendril_lines.specs.declared.command.Reply.{Reply}
use Rattle.tendril_lines.specs.declared.command.Reply.TheVariants.{Made}

-- one cell of a table changes from `old` to `new`
pub record OneChanged (cells : List Cell) (slot : ℕ) (old new : Cell) (after : List Cell) : Type 0 where
  pub here : cell_at cells slot ≡ old
  pub there : after ≡ set cells slot new
  pub kept : new ≡ old → after ≡ cells

pub one_changed : {S : Type 0} (f : S → Cell) (items : List S) (cells : List Cell) (slot : ℕ) (s t : S) → map f items
    ≡ cells → slot < length items → s ≡ get_or items slot s
    → OneChanged cells slot (f s) (f t) (map f (set items slot t))
one_changed f items cells slot s t is within found = record {
  here = ap (λ xs. get_or xs slot gone) (sym is) ∙ get_or-map f items slot s gone within ∙ ap f (sym found);
  there = map-set f items slot t ∙ ap (λ xs. set xs slot (f t)) is;
  kept = λ same. map-set_same f items slot t s (same ∙ ap f found) ∙ is;
}

-- an index of a cell is an index of an item
pub within_items : {S : Type 0} (f : S → Cell) (items : List S) (cells : List Cell) (slot : ℕ) → map f items ≡ cells
    → slot < length cells → slot < length items
within_items f items cells slot is within = subst (λ n. slot < n) (ap length (sym is) ∙ length-map items f) within

-- `one_changed`, where another item was stored there meanwhile
pub taken_changed : {S : Type 0} (f : S → Cell) (items : List S) (cells : List Cell) (slot : ℕ) (s meanwhile t : S)
    → map f items ≡ cells → slot < length items → s ≡ get_or items slot s
    → OneChanged cells slot (f s) (f t) (map f (set (set items slot meanwhile) slot t))
taken_changed f items cells slot s meanwhile t is within found =
    subst (λ xs. OneChanged cells slot (f s) (f t) (map f xs)) (sym (set-set items slot meanwhile t))
    (one_changed f items cells slot s t is within found)

-- the other cells stay the same meanwhile
pub other_cell : {S : Type 0} (f : S → Cell) (items : List S) (cells : List Cell) (slot other : ℕ) (s meanwhile : S)
    → map f items ≡ cells → other < length items → slot ≢ other → s ≡ get_or (set items slot meanwhile) other s
    → cell_at cells other ≡ f s
other_cell f items cells slot other s meanwhile is within apart found =
    (one_changed f items cells other s s is within
    (found ∙ get_or-set_other items slot other meanwhile s (λ e. apart (sym e)))).here

-- a change of one cell without an error changes its table by the same rule
pub table_done : (by : Cell → Rule Cell) (cells : List Cell) (slot : ℕ) (old new : Cell) (after : List Cell)
    → OneChanged cells slot old new after → (by old).must None × (new ≡ (by old).effect)
    → (by (cell_at cells slot)).must None × (after ≡ set cells slot (by (cell_at cells slot)).effect)
table_done by cells slot old new after one h = (
  subst (λ c. (by c).must None) (sym one.here) h.0,
  one.there
      ∙ ap (λ c. set cells slot c) (h.1 ∙ ap (λ c. (by c).effect) (sym one.here)),
)

-- an error of a change of one cell is an error for its table
pub table_refused : (by : Cell → Rule Cell) (cells : List Cell) (slot : ℕ) (old new : Cell) (after : List Cell)
    (r : Refusal) → OneChanged cells slot old new after → Refused (by old).must (by old).may r × (new ≡ old)
    → Refused (by (cell_at cells slot)).must (by (cell_at cells slot)).may r × (after ≡ cells)
table_refused by cells slot old new after r one h =
    (subst (λ c. Refused (by c).must (by c).may r) (sym one.here) h.0, one.kept h.1)

-- a change of one cell, with or without an error, changes its table by the same rule
pub table_changed : {R : Type 0} (by : Cell → Rule Cell) (cells : List Cell) (slot : ℕ) (old new : Cell)
    (after : List Cell) (result : Result R Refusal) → OneChanged cells slot old new after → Changes by old result new
    → Changes (λ cells. with_effect (set cells slot) (by (cell_at cells slot))) cells result after
table_changed by cells slot old new after (Ok r) one h = table_done by cells slot old new after one h
table_changed by cells slot old new after (Err r) one h = table_refused by cells slot old new after r one h

-- all cells are valid after one is replaced by a valid one
pub set_cells : {S : Type 0} (f : S → Cell) (items : List S) (slot : ℕ) (s : S) → All IsCell (map f items)
    → IsCell (f s) → All IsCell (map f (set items slot s))
set_cells f items slot s h one = subst (λ cells. All IsCell cells) (sym (map-set f items slot s))
    (All-set IsCell (map f items) slot (f s) one h)

-- the cell of one slot is valid if all are
pub cell_within : {S : Type 0} (f : S → Cell) (items : List S) (slot : ℕ) (s : S) → slot < length items
    → s ≡ get_or items slot s → All IsCell (map f items) → IsCell (f s)
cell_within f items slot s within found h =
    subst (λ cell. IsCell cell) (get_or-map f items slot s gone within ∙ ap f (sym found))
    (All-get_or IsCell (map f items) slot gone (subst (λ n. slot < n) (sym (length-map items f)) within) h)

-- all cells are valid after a change of one that keeps it valid
pub kept_cells : {S : Type 0} (f : S → Cell) (items : List S) (slot : ℕ) (s t : S) → slot < length items
    → s ≡ get_or items slot s → All IsCell (map f items) → (IsCell (f s) → IsCell (f t))
    → All IsCell (map f (set items slot t))
kept_cells f items slot s t within found h kept =
    set_cells f items slot t h (kept (cell_within f items slot s within found h))

-- all cells are valid after a valid one is added, or none
pub added_cells : {S : Type 0} (f : S → Cell) (b : Bool) (items after : List S) (s : S)
    → after ≡ (if b then items ++ s ∷ [] else items) → All IsCell (map f items) → IsCell (f s)
    → All IsCell (map f after)
added_cells f true items after s e h one =
    subst (λ xs. All IsCell (map f xs)) (sym e)
    (subst (λ cells. All IsCell cells) (sym (map-append f items (s ∷ [])))
    (All-push IsCell (map f items) (f s) h one))
added_cells f false items after s e h one = subst (λ xs. All IsCell (map f xs)) (sym e) h

-- if a created slot is added, or its error returned, the table follows the rule that adds its cell
pub made_added : {S : Type 0} (f : S → Cell) (by : Rule Cell) (cells after : List Cell) (made : Result S Refusal)
    (result : Result Reply Refusal)
    → MatchResult made (λ s. (result ≡ Ok (Made (length cells))) × (after ≡ cells ++ f s ∷ []))
    (λ r. (result ≡ Err r) × (after ≡ cells))
    → GivesBy by f made → Follows (λ old. with_effect (AddsCell old) by) cells result after
made_added f by cells after (Ok s) result added gives =
    rw added.0 (gives.0, (refl, added.1 ∙ ap (λ c. cells ++ c ∷ []) gives.1))
made_added f by cells after (Err r) result added gives = rw added.0 (gives, added.1)
