use Rattle.std.proofs.Common.{rules, ◌≡◌}
use Rattle.tendril_queue.proofs.Eaten.{cut_valid, eaten}
use Rattle.tendril_queue.specs.declared.eat.EatResult.TheVariants.{Eaten}
use Rattle.tendril_queue.proofs.queue.TextQueue.eat_in.Goals as goal

pub drop_front-requires-clause-valid : goal.drop_front-requires-clause-valid
drop_front-requires-clause-valid g c =
    let is : c.look_for-found.result ≡ Eaten = search rules in
    cut_valid c.args.case c.as_bytes.result.now c.args.pattern.now c.self.inside.first c.self.inside.rest.items
    c.look_for-found.result is c.look_for-found.ensures c.as_bytes.ensures.value
    c.utf8.pattern c.self.invariant

pub returns-then-eq : goal.returns-then-eq
returns-then-eq g c =
    let is : c.look_for-found.result ≡ Eaten = search rules in
    eaten c.args.case c.as_bytes.result.now c.args.pattern.now c.self.inside.first c.self.inside.rest.items
    c.look_for-found.result is c.look_for-found.ensures c.as_bytes.ensures.value
    c.drop_front.new.first c.drop_front.new.rest.items c.args.self.now c.self.view_is c.drop_front.ensures.bytes
    c.drop_front.ensures.texts
