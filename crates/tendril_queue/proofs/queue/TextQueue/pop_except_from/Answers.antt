use Rattle.std.proofs.Common.{arith}
use Rattle.std.specs.Prelude.{encode_utf8}
use Rattle.std.proofs.lemmas.Option.{IfSome_then}
use Rattle.tendril_queue.proofs.Fronts.{both_some, leaves_first, left_bytes, left_shorter}
use Rattle.tendril_queue.specs.Queues.{all_texts}
use Rattle.tendril_text.specs.Search.{part_bytes}
use Rattle.tendril_queue.proofs.queue.TextQueue.pop_except_from.Goals as goal

pub returns-clause-part : goal.returns-clause-part
returns-clause-part g c =
    let t = c.self.inside.first in
    let xs = c.self.inside.rest.items in
    let left = c.pop_except_from.new.self in
    let ys = all_texts c.refill.new.first c.refill.new.rest.items in
    rw (← c.self.view_is) (both_some c.in_ok-found.found c.in_ok-found.ensures.part c.in_ok-found.ensures.shorter
    (λ part p h. record {
      first = t;
      left = left;
      leaves = leaves_first t left xs ys (omega (arith, h)) c.refill.ensures.texts;
      part = p;
    }))

pub returns-clause-joined : goal.returns-clause-joined
returns-clause-joined g c =
    let t = c.self.inside.first in
    let xs = c.self.inside.rest.items in
    let left = c.pop_except_from.new.self in
    let ys = all_texts c.refill.new.first c.refill.new.rest.items in
    rw (← c.self.view_is) (both_some c.in_ok-found.found c.in_ok-found.ensures.joined c.in_ok-found.ensures.shorter
    (λ part e h.
    left_bytes (all_texts t xs) ys t left (leaves_first t left xs ys (omega (arith, h)) c.refill.ensures.texts)
    (part_bytes encode_utf8 part) e))

pub returns-clause-shorter : goal.returns-clause-shorter
returns-clause-shorter g c =
    let t = c.self.inside.first in
    let xs = c.self.inside.rest.items in
    let left = c.pop_except_from.new.self in
    let ys = all_texts c.refill.new.first c.refill.new.rest.items in
    rw (← c.self.view_is) (IfSome_then c.in_ok-found.found c.in_ok-found.ensures.shorter (λ part h.
    left_shorter (all_texts t xs) ys t left (leaves_first t left xs ys (omega (arith, h)) c.refill.ensures.texts) h))
