-- One rope of a table changes, or one is added.
use Rattle.std.proofs.Common.{◌≡◌, ℕ, ◌<◌, ◌≤◌, ◌⊎◌, List, length, get_or, set, map, ap, refl, sym, subst, ◌∙◌, Option}
use Rattle.std.proofs.Common.{Some, None, [], ◌∷◌, ◌++◌, All}
use Rattle.std.proofs.lemmas.List.{map-append, map-set, get_or-map, get_or_past, length-map}
use Rattle.std.proofs.lemmas.List.Elements.{All-set, All-push, All-get_or}
use Rattle.std.proofs.Math.Seq.{map-set_same}
use Rattle.tendril_lines.specs.declared.command.Reply.{Reply}
use Rattle.tendril_lines.specs.declared.command.Reply.TheVariants.{Refused}
use Rattle.rope_text.specs.Ropes.{RopeText}
use Rattle.rope_run.specs.declared.command.RopeReply.TheVariants.{Plain}
use Rattle.rope_run.specs.RopeCells.{Cells, RopeCell, IsRopeCell, gone, rope_at}
use Rattle.rope_run.specs.RopeOf.{rope_cell_of}
use Rattle.rope_run.specs.RopeSteps.{RopeReplied, at_rope}
use Rattle.tendril_run.specs.Cells.{Cell}
use Rattle.rope_run.specs.RopeRules.{Answered}
use Rattle.tendril_run.specs.Rules.{Rule}

-- the cells of slots and ropes
abbrev pub cells_of : List Cell → List (Option RopeText) → Cells
cells_of slots items = record { slots = slots; ropes = map rope_cell_of items }

-- one rope's cell was `old`, and in `after` it is `new`; all other ropes are unchanged
pub record OneRope (items : List (Option RopeText)) (number : ℕ) (old new : RopeCell)
    (after : List (Option RopeText)) : Type 0 where
  pub here : rope_at (map rope_cell_of items) number ≡ old
  pub there : map rope_cell_of after ≡ set (map rope_cell_of items) number new
  pub kept : new ≡ old → map rope_cell_of after ≡ map rope_cell_of items

pub one_rope : (items : List (Option RopeText)) (number : ℕ) (s t : Option RopeText) → number < length items
    → s ≡ get_or items number s → OneRope items number (rope_cell_of s) (rope_cell_of t) (set items number t)
one_rope items number s t within found = record {
  here = get_or-map rope_cell_of items number s gone within ∙ ap rope_cell_of (sym found);
  there = map-set rope_cell_of items number t;
  kept = λ same. map-set_same rope_cell_of items number t s (same ∙ ap rope_cell_of found);
}

-- a call on one rope is a step of its table
answered : (by : RopeCell → Rule RopeCell) (said : RopeCell → Reply) (slots : List Cell)
    (items after : List (Option RopeText)) (number : ℕ) (old new : RopeCell) (reply : Reply)
    → OneRope items number old new after → Answered by said old reply new
    → RopeReplied (at_rope number said by) (cells_of slots items) (Plain reply) (cells_of slots after)
answered by said slots items after number old new (Refused r) one h = (
  subst (λ c. (by c).must (Some r) ⊎ ((by c).must None × (by c).may r)) (sym one.here) h.0,
  ap
      (λ ropes. record { slots = slots; ropes = ropes }) (one.kept h.1),
)
answered by said slots items after number old new reply one h = (
  subst (λ c. (by c).must None) (sym one.here) h.0,
  (
    ap Plain (h.1.0 ∙ ap said (sym one.here)),
    (
      one.there ∙ ap (λ c. set (map rope_cell_of items) number c) (h.1.1 ∙ ap (λ c. (by c).effect) (sym one.here)),
      refl,
    ),
  ),
)

-- the same, by the cells that contracts see
pub table_answered : (by : RopeCell → Rule RopeCell) (said : RopeCell → Reply) (before : Cells) (slots : List Cell)
    (items after : List (Option RopeText)) (number : ℕ) (old new : RopeCell) (reply : Reply) → cells_of slots items
    ≡ before → OneRope items number old new after → Answered by said old reply new
    → RopeReplied (at_rope number said by) before (Plain reply) (cells_of slots after)
table_answered by said before slots items after number old new reply is one h =
    subst (λ (b : Cells). RopeReplied (at_rope number said by) b (Plain reply) (cells_of slots after)) is
    (answered by said slots items after number old new reply one h)

-- a number past the end has the cell `gone`
pub past_gone : (before : Cells) (slots : List Cell) (items : List (Option RopeText)) (number : ℕ)
    → cells_of slots items ≡ before → length items ≤ number → rope_at before.ropes number ≡ gone
past_gone before slots items number is past =
    subst (λ (b : Cells). rope_at b.ropes number ≡ gone) is
    (get_or_past (map rope_cell_of items) number gone
    (subst (λ n. n ≤ number) (sym (length-map items rope_cell_of)) past))

-- ropes stay valid if one of them becomes another valid one
pub kept_ropes : (items : List (Option RopeText)) (number : ℕ) (s t : Option RopeText) → number < length items
    → s ≡ get_or items number s → All IsRopeCell (map rope_cell_of items)
    → (IsRopeCell (rope_cell_of s) → IsRopeCell (rope_cell_of t))
    → All IsRopeCell (map rope_cell_of (set items number t))
kept_ropes items number s t within found h kept =
    let here : IsRopeCell (rope_cell_of s) =
    subst (λ cell. IsRopeCell cell) (get_or-map rope_cell_of items number s gone within ∙ ap rope_cell_of (sym found))
    (All-get_or IsRopeCell (map rope_cell_of items) number gone
    (subst (λ n. number < n) (sym (length-map items rope_cell_of)) within) h) in
    subst (λ cells. All IsRopeCell cells) (sym (map-set rope_cell_of items number t))
    (All-set IsRopeCell (map rope_cell_of items) number (rope_cell_of t) (kept here) h)

-- and if one is added
pub added_ropes : (items : List (Option RopeText)) (s : Option RopeText) → All IsRopeCell (map rope_cell_of items)
    → IsRopeCell (rope_cell_of s) → All IsRopeCell (map rope_cell_of (items ++ s ∷ []))
added_ropes items s h one = subst (λ cells. All IsRopeCell cells) (sym (map-append rope_cell_of items (s ∷ [])))
    (All-push IsRopeCell (map rope_cell_of items) (rope_cell_of s) h one)
