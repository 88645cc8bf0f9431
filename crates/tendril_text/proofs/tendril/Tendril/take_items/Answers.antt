use Rattle.std.proofs.Common.{◌++◌, [], ◌∷◌}
use Rattle.tendril_text.proofs.Taken.{Yields-push, grown}
use Rattle.tendril_text.proofs.tendril.Tendril.take_items.Goals as goal

pub loop-item-preserved : goal.loop-item-preserved
loop-item-preserved g c =
    let on = c.in-Some.ensures.goes.on c.loop-item.invariant.1 in
    let before = c.loop-item.invariant.2 in (
      on.0,
      on.1,
      record {
        items = before.items ++ c.in-Some.item ∷ [];
        yielded = Yields-push g.I.Iterator.next_gives _ _ _ _ _ before.yielded c.in-Some.ensures.steps;
        text = grown g.I.Item.Pushable.bytes g.F.Format.join c.args.self.now _ _ _ before.text c.in_ok-push_to.field-0
            c.push_to.result _ c.in_ok-push_to.was c.push_to.ensures;
      },
    )
