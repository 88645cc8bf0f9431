use Rattle.std.proofs.Common.{arith, length, ap, refl, inr}
use Rattle.rope_text.proofs.Built.{IsRope-append}
use Rattle.rope_text.proofs.Ends.{moved_between}
use Rattle.rope_text.proofs.Grown.{longer_all}
use Rattle.rope_text.proofs.Joined.{length_joined_some}
use Rattle.rope_text.proofs.Shared.{where_answered, where_refused}
use Rattle.rope_text.specs.Ropes.{RopeText}
use Rattle.rope_text.proofs.rope.Rope.append.Goals as goal

pub returns-then-is_err-clause-grows : goal.returns-then-is_err-clause-grows
returns-then-is_err-clause-grows g c =
    let size = ap (λ (r : RopeText). length r.bytes) c.self.view_is in
    let more = ap (λ (r : RopeText). length r.bytes) c.rope.view_is in
    let count = c.self.invariant.counts in
    let count' = c.rope.invariant.counts in
    let full = where_refused c.reserve.result _ c.is_err.result c.is_err.ensures.negation c.if-is_err.true
    c.reserve.ensures.full in
    let some = length_joined_some c.rope.inside.pieces.items c.rope.invariant.each
    (omega (
      arith,
      full,
      c.len.ensures,
      c.rope.inside.ends.ok,
      c.rope.invariant.places.len,
      c.self.inside.ends.small,
    )) in
    (inr ((omega arith, tt), (refl, omega arith)), c.self.view_is)

pub push_ends-requires : goal.push_ends-requires
push_ends-requires g c =
    let room = where_answered c.reserve.result _ c.is_err.result c.is_err.ensures.negation c.if-is_err.false
    c.reserve.ensures.ok in
    omega (arith, room, c.len.ensures)

pub invariant_of-self-in-Ok-1 : goal.invariant_of-self-in-Ok-1
invariant_of-self-in-Ok-1 g c =
    rw (c.in-Ok.ensures.items, c.push_ends.ensures, c.reserve.ensures.items)
    (IsRope-append c.self.inside.pieces.items c.rope.inside.pieces.items c.self.inside.start c.rope.inside.start _
    c.self.inside.total c.rope.inside.total c.in-Some.total c.self.inside.ends.items c.rope.inside.ends.items
    c.self.invariant c.rope.invariant (omega arith) (omega arith)
    (moved_between c.self.inside.start c.rope.inside.start c.self.inside.total (omega arith)))

pub returns-in-Ok-clause-grows : goal.returns-in-Ok-clause-grows
returns-in-Ok-clause-grows g c =
    let size = ap (λ (r : RopeText). length r.bytes) c.self.view_is in
    let more = ap (λ (r : RopeText). length r.bytes) c.rope.view_is in
    let count = c.self.invariant.counts in
    let count' = c.rope.invariant.counts in (
      (omega arith, tt),
      longer_all c.self.inside.pieces.items c.rope.inside.pieces.items c.append.new.self.items
          c.args.self.now c.args.rope c.in-Ok.ensures.items c.self.view_is c.rope.view_is,
    )

pub returns-in-Err-clause-grows : goal.returns-in-Err-clause-grows
returns-in-Err-clause-grows g c =
    let size = ap (λ (r : RopeText). length r.bytes) c.self.view_is in
    let more = ap (λ (r : RopeText). length r.bytes) c.rope.view_is in
    let some = length_joined_some c.rope.inside.pieces.items c.rope.invariant.each
    (omega (arith, c.in-Err.ensures.full)) in
    (inr ((omega arith, tt), (refl, omega arith)), rw c.in-Err.ensures.items c.self.view_is)
