use Rattle.std.proofs.Common.{ap, inl, refl, rules, subst}
use Rattle.tendril_lines.specs.declared.command.Reply.TheVariants.{Done}
use Rattle.rope_run.proofs.RopeChanged.{one_rope, table_answered, past_gone, kept_ropes}
use Rattle.rope_run.specs.RopeCells.{rope_at}
use Rattle.rope_run.specs.RopeOf.{rope_cell_of}
use Rattle.rope_run.specs.RopeRows.{append_rule}
use Rattle.rope_run.specs.RopeRules.{Changed}
use Rattle.rope_run.proofs.table.RopeTable.append.Goals as goal

pub returns-then-to-len-clause-step : goal.returns-then-to-len-clause-step
returns-then-to-len-clause-step g c class =
    rw (
      c.refused.ensures,
      past_gone c.args.self.now.cells _ c.self.inside.ropes.items c.args.to
          (ap (λ t. t.cells) c.self.view_is) (search rules),
    ) (inl refl, refl)

pub returns-in-Ok-clause-step : goal.returns-in-Ok-clause-step
returns-in-Ok-clause-step g c class =
    let other = rope_at c.args.self.now.cells.ropes c.args.from in
    let old = rope_cell_of c.index_mut.result.now in
    let new = rope_cell_of c.append.new.rope in
    let h = subst (λ cell. Changed (append_rule cell) old c.append.result new) c.in-Ok.ensures.1
    c.append.ensures.done in
    let one = one_rope c.self.inside.ropes.items c.args.to c.index_mut.result.now c.append.new.rope
    (search rules) c.index_mut.ensures.value in
    table_answered (append_rule other) (λ cell. Done) c.args.self.now.cells _ c.self.inside.ropes.items _ c.args.to
    old new c.append.result (ap (λ t. t.cells) c.self.view_is) one h

pub invariant_of-self : goal.invariant_of-self
invariant_of-self g c = kept_ropes c.self.inside.ropes.items c.args.to c.index_mut.result.now c.append.new.rope
    (search rules) c.index_mut.ensures.value c.self.invariant c.append.ensures.kept
