use Rattle.std.proofs.Common.{◌≡◌, ◌∙◌, ap, inl, refl, rules, subst}
use Rattle.tendril_lines.specs.declared.command.Reply.TheVariants.{Done}
use Rattle.rope_run.proofs.RopeChanged.{one_rope, table_answered, past_gone, kept_ropes}
use Rattle.rope_run.specs.RopeOf.{rope_cell_of}
use Rattle.rope_run.specs.RopeRows.{rope_push_rule}
use Rattle.tendril_run.specs.Cells.{cell_of, cell_at}
use Rattle.rope_run.specs.RopeRules.{Changed}
use Rattle.rope_run.proofs.table.RopeTable.push.Goals as goal

pub returns-then-rope-len-clause-step : goal.returns-then-rope-len-clause-step
returns-then-rope-len-clause-step g c class =
    rw (
      c.refused.ensures,
      past_gone c.args.self.now.cells _ c.self.inside.ropes.items c.args.rope
          (ap (λ t. t.cells) c.self.view_is) (search rules),
    ) (inl refl, refl)

pub returns-in-Some-clause-step : goal.returns-in-Some-clause-step
returns-in-Some-clause-step g c class =
    let other = cell_at c.args.self.now.cells.slots c.args.slot in
    let found : cell_of c.in-Some.slot.now ≡ other = c.in-Some.ensures.1
    ∙ ap (λ t. cell_at t.cells.slots c.args.slot) c.self.view_is in
    let old = rope_cell_of c.index_mut.result.now in
    let new = rope_cell_of c.push.new.rope in
    let h = subst (λ cell. Changed (rope_push_rule cell) old c.push.result new) found c.push.ensures.done in
    let one = one_rope c.self.inside.ropes.items c.args.rope c.index_mut.result.now c.push.new.rope
    (search rules) c.index_mut.ensures.value in
    table_answered (rope_push_rule other) (λ cell. Done) c.args.self.now.cells _ c.self.inside.ropes.items _
    c.args.rope old new c.push.result (ap (λ t. t.cells) c.self.view_is) one h

pub invariant_of-self : goal.invariant_of-self
invariant_of-self g c = kept_ropes c.self.inside.ropes.items c.args.rope c.index_mut.result.now c.push.new.rope
    (search rules) c.index_mut.ensures.value c.self.invariant c.push.ensures.kept
