use Rattle.std.proofs.Common.{◌≡◌, ◌∙◌, ◌++◌, ◌∷◌, [], List, ap, arith, map, subst, sym, ℕ}
use Rattle.std.proofs.lemmas.Grind.{common_steps}
use Rattle.std.proofs.lemmas.List.{map-append}
use Rattle.tendril.specs.Proofs.TextSplits.{lines_push}
use Rattle.tendril.specs.Cuts.{LinesSoFar}
use Rattle.tendril.specs.Texts.{Text}
use Rattle.tendril_bench.proofs.lines.split_lines.Goals as goal

pub loop-line-preserved : goal.loop-line-preserved
loop-line-preserved c =
    let bytes : Text → List ℕ = λ t. t.bytes in
    let lines = c.loop-line.lines.items in
    let line = c.in_ok-line.line in
    let whole = c.args.text.bytes in
    let rest = c.next.new.self.rest.bytes in
    let comes = rw c.in_ok-line.was at c.in-Some.ensures.steps in
    let items : c.push.new.self.items ≡ lines ++ line ∷ [] = grind (arith, common_steps) in
    let before = c.loop-line.line-iterator.rest.bytes in
    let more = lines_push (map bytes lines) line.bytes whole before rest c.loop-line.invariant.so_far comes.1 in
    let same : map bytes c.push.new.self.items ≡ map bytes lines ++ line.bytes ∷ [] =
    ap (map bytes) items ∙ map-append bytes lines (line ∷ []) in
    record {
      can_next = tt;
      is_finite = tt;
      goes_on = comes.0.1;
      so_far = subst (λ l. LinesSoFar l whole rest) (sym same) more;
    }
