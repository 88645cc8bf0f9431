use Rattle.std.proofs.Common.{length, sym, ap, subst, arith}
use Rattle.std.specs.Prelude.{IsUtf8}
use Rattle.std.proofs.lemmas.List.{take_all}
use Rattle.std.proofs.lemmas.Str.{IsUtf8-take}
use Rattle.rope_text.proofs.Joined.{pieces_valid}
use Rattle.rope_text.specs.Ropes.{RopeText}
use Rattle.rope_text.proofs.rope.Rope.front_end.Goals as goal

pub returns-in-Some-clause-valid : goal.returns-in-Some-clause-valid
returns-in-Some-clause-valid g c =
    let valid = subst (λ (r : RopeText). IsUtf8 r.bytes) c.self.view_is
    (pieces_valid c.self.inside.pieces.items c.self.invariant.each) in
    IsUtf8-take c.args.self.now.bytes c.in-Some.at valid c.in-Some.ensures.cut

pub returns-in-None-clause-valid : goal.returns-in-None-clause-valid
returns-in-None-clause-valid g c =
    let size = ap (λ (r : RopeText). length r.bytes) c.self.view_is in
    let counts = c.self.invariant.counts in
    let valid = subst (λ (r : RopeText). IsUtf8 r.bytes) c.self.view_is
    (pieces_valid c.self.inside.pieces.items c.self.invariant.each) in
    subst IsUtf8 (sym (take_all c.self.inside.total c.args.self.now.bytes (omega arith))) valid
