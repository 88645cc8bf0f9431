use Rattle.std.proofs.Common.{◌≡◌, [], length, subst, sym, ap, ◌∙◌, arith, eq-eqb}
use Rattle.rope_text.proofs.Joined.{no_pieces}
use Rattle.rope_text.specs.Ropes.{RopeText}
use Rattle.tendril_text.specs.TextLists.{bytes_of_all}
use Rattle.rope_text.proofs.rope.Rope.is_empty.Goals as goal

pub returns-clause-pieces : goal.returns-clause-pieces
returns-clause-pieces g c =
    let xs = c.self.inside.pieces.items in
    let count = c.self.invariant.counts in (
      λ t.
          let none : c.self.inside.total ≡ 0 = grind arith in
          subst (λ (r : RopeText). r.pieces ≡ []) c.self.view_is
          (no_pieces xs c.self.invariant.each (sym count ∙ none)),
      λ e.
          let empty : xs ≡ [] = ap (λ (r : RopeText). r.pieces) c.self.view_is ∙ e in
          eq-eqb c.self.inside.total 0 (count ∙ ap (λ l. length (bytes_of_all l)) empty),
    )
