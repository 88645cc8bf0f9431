use Rattle.std.proofs.Common.{length, subst}
use Rattle.std.proofs.lemmas.List.{take_rest}
use Rattle.tendril_queue.proofs.Across.{met_after}
use Rattle.tendril_queue.specs.Eating.{AreSame, Meets}
use Rattle.tendril_text.specs.TextLists.{bytes_of_all}
use Rattle.tendril_queue.proofs.eat.look_across.Goals as goal

pub returns-then-is_same : goal.returns-then-is_same
returns-then-is_same g c =
    let text = c.args.text.now in
    let pattern = c.args.pattern.now in
    let bytes = bytes_of_all c.args.rest.now.items in
    met_after c.args.case text bytes pattern c.requires c.look_in.result (c.is_same.ensures.0 c.if-is_same.true) (subst
    (λ l. Meets (AreSame c.args.case) l bytes c.look_in.result) (take_rest pattern (length text)) c.look_in.ensures)
