use Rattle.std.proofs.Common.{arith, ap, length}
use Rattle.rope_text.proofs.Built.{IsRope-push}
use Rattle.rope_text.proofs.Grown.{longer_by}
use Rattle.rope_text.specs.Ropes.{RopeText}
use Rattle.rope_text.proofs.rope.Rope.push_tendril.Goals as goal

pub invariant_of-self-in-Ok : goal.invariant_of-self-in-Ok
invariant_of-self-in-Ok g c =
    let size = ap length c.as_byte_slice.ensures.value in
    rw (c.in-Ok.ensures.items, c.push_back_reserved.ensures.items, c.reserve.ensures.items)
    (IsRope-push c.self.inside.pieces.items c.args.text c.self.inside.start _ c.self.inside.total c.in-Some.total
    c.self.inside.ends.items c.self.invariant
    (record { some = omega arith; short = omega arith; valid = c.as_byte_slice.ensures.valid })
    (omega arith) (omega arith) (omega arith))

pub returns-in-Ok-clause-grows : goal.returns-in-Ok-clause-grows
returns-in-Ok-clause-grows g c =
    let size = ap length c.as_byte_slice.ensures.value in
    let count = c.self.invariant.counts in
    let same = ap (λ (r : RopeText). length r.bytes) c.self.view_is in (
      (omega arith, tt),
      longer_by c.self.inside.pieces.items c.push_back.new.self.items c.args.text c.args.self.now
          c.in-Ok.ensures.items (omega arith) c.self.view_is,
    )
