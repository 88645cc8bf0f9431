use Rattle.std.proofs.Common.{◌+◌, ◌-◌, ◌++◌, length, take, sym, ap, subst, ◌∙◌, arith}
use Rattle.std.specs.Prelude.{IsUtf8}
use Rattle.std.proofs.lemmas.List.{take_all}
use Rattle.std.proofs.Math.Seq.{take-add}
use Rattle.std.proofs.lemmas.Slice.{take-put_mid}
use Rattle.rope_text.proofs.Joined.{pieces_valid}
use Rattle.rope_text.specs.Ropes.{RopeText}
use Rattle.rope_text.proofs.rope.Rope.to_short.Goals as goal

pub loop-at-preserved : goal.loop-at-preserved
loop-at-preserved g c =
    let at = c.loop-at.at in
    let rest = c.rest_at-rest.result.now in
    let b = c.args.self.now.bytes in
    let after = c.copy_from_slice.ensures.after in
    let len = ap length after in
    record {
      within = c.rest_at-rest.ensures.within;
      same = take-put_mid at (at + length rest - at) c.loop-at.bytes c.copy_from_slice.new.self (at + length rest)
          (omega arith) (omega arith)
          ∙ ap (λ l. l ++ c.copy_from_slice.new.self) c.loop-at.invariant.same
          ∙ ap (λ l. take at b ++ l) (after ∙ c.rest_at-rest.ensures.bytes)
          ∙ sym (take-add at (length rest) b);
    }

pub from_byte_slice_without_validating-requires : goal.from_byte_slice_without_validating-requires
from_byte_slice_without_validating-requires g c =
    let count = c.self.invariant.counts in
    let size = ap (λ (r : RopeText). length r.bytes) c.self.view_is in
    let within = c.loop-at.invariant.within in
    let past = c.loop-at-test.false in
    let valid = subst (λ (r : RopeText). IsUtf8 r.bytes) c.self.view_is
    (pieces_valid c.self.inside.pieces.items c.self.invariant.each) in
    rw (c.loop-at.invariant.same, take_all c.loop-at.at c.args.self.now.bytes (omega arith)) valid
