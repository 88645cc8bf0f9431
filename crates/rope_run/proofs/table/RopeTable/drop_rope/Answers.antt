use Rattle.std.proofs.Common.{ap, inl, refl, rules}
use Rattle.tendril_lines.specs.declared.command.Reply.TheVariants.{Done}
use Rattle.rope_run.proofs.RopeChanged.{one_rope, table_answered, past_gone, kept_ropes}
use Rattle.rope_run.specs.RopeOf.{rope_cell_of}
use Rattle.rope_run.specs.RopeRows.{rope_drop_rule}
use Rattle.rope_run.proofs.table.RopeTable.drop_rope.Goals as goal

pub returns-then-rope-len-clause-step : goal.returns-then-rope-len-clause-step
returns-then-rope-len-clause-step g c class =
    rw (
      c.refused.ensures,
      past_gone c.args.self.now.cells _ c.self.inside.ropes.items c.args.rope
          (ap (λ t. t.cells) c.self.view_is) (search rules),
    ) (inl refl, refl)

pub returns-clause-step : goal.returns-clause-step
returns-clause-step g c class =
    let one = one_rope c.self.inside.ropes.items c.args.rope c.index_mut.result.now c.drop_rope.new.rope
    (search rules) c.index_mut.ensures.value in
    table_answered rope_drop_rule (λ cell. Done) c.args.self.now.cells _ c.self.inside.ropes.items _ c.args.rope
    (rope_cell_of c.index_mut.result.now) (rope_cell_of c.drop_rope.new.rope) c.drop_rope.result
    (ap (λ t. t.cells) c.self.view_is) one c.drop_rope.ensures.done

pub invariant_of-self : goal.invariant_of-self
invariant_of-self g c = kept_ropes c.self.inside.ropes.items c.args.rope c.index_mut.result.now c.drop_rope.new.rope
    (search rules) c.index_mut.ensures.value c.self.invariant (λ h. rw c.drop_rope.ensures.gone tt)
