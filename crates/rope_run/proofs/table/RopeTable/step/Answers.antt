use Rattle.rope_run.proofs.GivenRopes.{rope_added, slot_added}
use Rattle.rope_run.specs.RopeCells.{rope_at}
use Rattle.rope_run.specs.RopeRows.{rope_part_rule, rope_take_rule}
use Rattle.rope_run.proofs.table.RopeTable.step.Goals as goal

pub returns-in-RopePush-clause-step : goal.returns-in-RopePush-clause-step
returns-in-RopePush-clause-step g c =
    rw c.in-RopePush.is (c.push.ensures.step (g.C.Classifier.class c.args.classifier.now))

pub returns-in-RopeAppend-clause-step : goal.returns-in-RopeAppend-clause-step
returns-in-RopeAppend-clause-step g c =
    rw c.in-RopeAppend.is (c.append.ensures.step (g.C.Classifier.class c.args.classifier.now))

pub returns-in-RopeLen-clause-step : goal.returns-in-RopeLen-clause-step
returns-in-RopeLen-clause-step g c = rw c.in-RopeLen.is (c.length.ensures (g.C.Classifier.class c.args.classifier.now))

pub returns-in-RopePopChar-clause-step : goal.returns-in-RopePopChar-clause-step
returns-in-RopePopChar-clause-step g c =
    rw c.in-RopePopChar.is (c.pop_char.ensures.step (g.C.Classifier.class c.args.classifier.now))

pub returns-in-RopeSub-clause-step : goal.returns-in-RopeSub-clause-step
returns-in-RopeSub-clause-step g c =
    rw c.in-RopeSub.is (rope_added
    (rope_part_rule c.in-RopeSub.offset c.in-RopeSub.count
    (rope_at c.args.self.now.cells.ropes c.in-RopeSub.rope)) c.args.self.now.cells _ c.part.result _
    c.add_made.ensures.added c.part.ensures)

pub returns-in-RopeTake-clause-step : goal.returns-in-RopeTake-clause-step
returns-in-RopeTake-clause-step g c =
    rw c.in-RopeTake.is (slot_added (rope_take_rule (rope_at c.args.self.now.cells.ropes c.in-RopeTake.rope))
    c.args.self.now.cells _ c.whole.result _ c.add_slot.ensures.added c.whole.ensures)

pub returns-in-RopeDrop-clause-step : goal.returns-in-RopeDrop-clause-step
returns-in-RopeDrop-clause-step g c =
    rw c.in-RopeDrop.is (c.drop_rope.ensures.step (g.C.Classifier.class c.args.classifier.now))
