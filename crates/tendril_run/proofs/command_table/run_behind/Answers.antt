use Rattle.std.proofs.Common.{arith, ap, ◌∙◌, sym, ◌++◌, ◌∷◌, [], take}
use Rattle.std.proofs.lemmas.List.{take_more}
use Rattle.tendril_run.proofs.Chained.{one_more}
use Rattle.tendril_run.proofs.command_table.run_behind.Goals as goal

pub loop-place-preserved : goal.loop-place-preserved
loop-place-preserved g c =
    let commands = c.args.commands.now in
    let i = c.loop-place.place in
    let front = take_more commands i c.index-commands-place.result c.loop-place-test.true
    ∙ ap (λ x. take i commands ++ x ∷ []) (sym c.index-commands-place.is) in
    record {
      run = rw (front, c.push_reserved.ensures.items)
          (one_more (g.T.CommandTable.step (g.C.Classifier.class c.args.classifier.now)) _ _ _ _ _ _ _
          c.loop-place.invariant.run c.step-reply.ensures.step);
      room = omega arith;
      told = omega arith;
      kept = omega arith;
    }
