use Rattle.tendril_queue.proofs.Fronts.{first_of}
use Rattle.tendril_queue.proofs.queue.refill.Goals as goal

pub returns-in-Some-clause-queue : goal.returns-in-Some-clause-queue
returns-in-Some-clause-queue g c =
    first_of c.args.rest.now.items c.in-Some.next c.pop_front.new.self.items c.in-Some.ensures.items c.requires
