-- The first line of a rope.
use Rattle.std.proofs.Common.{◌≡◌, ℕ, ◌+◌, ◌≤◌, length, take, drop, sym, ap, ◌∙◌, subst, arith}
use Rattle.std.proofs.lemmas.List.{length-take-le, drop-drop}
use Rattle.rope_text.specs.Fronts.{CutsLine}
use Rattle.rope_text.specs.Ropes.{RopeText}
use Rattle.rope_text.specs.Splits.{IsCutAt}
use Rattle.tendril_fmt.specs.Cuts.{TakesLine}
use Rattle.tendril_text.specs.TextLists.{DropsFront}

-- a rope was cut after its line, and the line ending was dropped
pub line_cut : (old line after rest : RopeText) (len ending : ℕ) → len + ending ≤ length old.bytes
    → TakesLine old.bytes (take len old.bytes) (drop (len + ending) old.bytes) → IsCutAt len old line after
    → rest.bytes ≡ drop ending after.bytes → DropsFront after.pieces rest.pieces → CutsLine old line rest
line_cut old line after rest len ending within takes cut dropped loses =
    let size : len ≡ length line.bytes = sym (ap length cut.front_bytes ∙ length-take-le len old.bytes (omega arith)) in
    let is : drop (len + ending) old.bytes ≡ rest.bytes =
    sym (dropped ∙ ap (λ l. drop ending l) cut.rest_bytes ∙ drop-drop ending len old.bytes) in
    record {
      takes = subst (λ r. TakesLine old.bytes line.bytes r) is
          (subst (λ l. TakesLine old.bytes l (drop (len + ending) old.bytes)) (sym cut.front_bytes) takes);
      after = after;
      cut = subst (λ n. IsCutAt n old line after) size cut;
      loses = loses;
    }
