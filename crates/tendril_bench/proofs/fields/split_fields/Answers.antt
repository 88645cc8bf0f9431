use Rattle.std.proofs.Common.{◌≡◌, ◌∙◌, ◌++◌, ◌∷◌, [], List, ap, arith, map, subst, sym, ℕ}
use Rattle.std.proofs.lemmas.Grind.{common_steps}
use Rattle.std.proofs.lemmas.List.{map-append}
use Rattle.tendril_bench.proofs.Commas.{parts_lack}
use Rattle.tendril.specs.Proofs.TextSplits.{splits_push, parts_joined}
use Rattle.tendril.specs.Sets.{has_byte}
use Rattle.tendril.specs.Cuts.{SplitsSoFar}
use Rattle.tendril.specs.Texts.{Text}
use Rattle.tendril_bench.proofs.fields.split_fields.Goals as goal

pub loop-field-preserved : goal.loop-field-preserved
loop-field-preserved c =
    let bytes : Text → List ℕ = λ t. t.bytes in
    let held = c.loop-field.invariant in
    let fields = c.loop-field.fields.items in
    let field = c.in_ok-field.field in
    let before = c.loop-field.field-iterator in
    let after = c.next.new.self in
    let set = has_byte before.set.now in
    let whole = c.args.line.bytes in
    let comes = rw c.in_ok-field.was at c.in-Some.ensures.steps in
    let so = subst (SplitsSoFar set (map bytes fields) whole before.rest.bytes) comes.0.0 held.so_far in
    let more = splits_push set (map bytes fields) field.bytes whole before.rest.bytes after.rest.bytes after.is_over
    so comes.0.1 in
    let items : c.push.new.self.items ≡ fields ++ field ∷ [] = grind (arith, common_steps) in
    let same : map bytes c.push.new.self.items ≡ map bytes fields ++ field.bytes ∷ [] =
    ap (map bytes) items ∙ map-append bytes fields (field ∷ []) in
    let now = subst (λ l. SplitsSoFar set l whole after.rest.bytes after.is_over) (sym same) more in
    record {
      can_next = tt;
      is_finite = tt;
      comma = rw comes.1 held.comma;
      no_other = rw comes.1 held.no_other;
      so_far = rw comes.1 now;
    }

pub returns-clause-joined : goal.returns-clause-joined
returns-clause-joined c =
    let bytes : Text → List ℕ = λ t. t.bytes in
    let held = c.loop-field.invariant in
    let parts = map bytes c.loop-field.fields.items in
    let last = c.loop-field.field-iterator in
    let all = subst (SplitsSoFar (has_byte last.set.now) parts c.args.line.bytes last.rest.bytes)
    c.in-None.ensures.steps.0.0 held.so_far in
    parts_joined (has_byte last.set.now) 44 parts c.args.line.bytes held.no_other all.0

pub returns-clause-apart : goal.returns-clause-apart
returns-clause-apart c =
    let bytes : Text → List ℕ = λ t. t.bytes in
    let held = c.loop-field.invariant in
    let parts = map bytes c.loop-field.fields.items in
    let last = c.loop-field.field-iterator in
    let all = subst (SplitsSoFar (has_byte last.set.now) parts c.args.line.bytes last.rest.bytes)
    c.in-None.ensures.steps.0.0 held.so_far in
    parts_lack (has_byte last.set.now) 44 parts c.args.line.bytes held.comma all.0
