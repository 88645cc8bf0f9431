use Rattle.std.proofs.Common.{◌-◌, length, sym, ap, subst, arith}
use Rattle.std.specs.Prelude.{IsUtf8}
use Rattle.std.proofs.lemmas.List.{take_all}
use Rattle.std.proofs.lemmas.Str.{IsCharBoundary-before_ascii, IsUtf8-take}
use Rattle.rope_text.proofs.Joined.{pieces_valid}
use Rattle.rope_text.specs.Ropes.{RopeText}
use Rattle.tendril_fmt.proofs.Pieces.{line_crlf, line_lf}
use Rattle.rope_text.proofs.rope.Rope.first_line.Goals as goal

pub returns-in_default-clause-valid : goal.returns-in_default-clause-valid
returns-in_default-clause-valid g c =
    let size = ap (λ (r : RopeText). length r.bytes) c.self.view_is in
    let counts = c.self.invariant.counts in
    let valid = subst (λ (r : RopeText). IsUtf8 r.bytes) c.self.view_is
    (pieces_valid c.self.inside.pieces.items c.self.invariant.each) in
    subst IsUtf8 (sym (take_all c.self.inside.total c.args.self.now.bytes (omega arith))) valid

pub returns-then-follows_cr-clause-line : goal.returns-then-follows_cr-clause-line
returns-then-follows_cr-clause-line g c =
    let first = c.in-Some.ensures.first in
    line_crlf c.args.self.now.bytes c.in-Some.at c.follows_cr.result first.0.high first.0.before first.1
    c.follows_cr.ensures c.if-follows_cr.true

pub returns-then-follows_cr-clause-valid : goal.returns-then-follows_cr-clause-valid
returns-then-follows_cr-clause-valid g c =
    let b = c.args.self.now.bytes in
    let valid = subst (λ (r : RopeText). IsUtf8 r.bytes) c.self.view_is
    (pieces_valid c.self.inside.pieces.items c.self.invariant.each) in
    let high = c.in-Some.ensures.first.0.high in
    let cr = c.follows_cr.ensures.0 c.if-follows_cr.true in
    let some = cr.0 in
    let byte = cr.1 in
    IsUtf8-take b (c.in-Some.at - 1) valid
    (IsCharBoundary-before_ascii b (c.in-Some.at - 1) (omega arith) (omega arith))

pub returns-clause-line : goal.returns-clause-line
returns-clause-line g c =
    let first = c.in-Some.ensures.first in
    line_lf c.args.self.now.bytes c.in-Some.at c.follows_cr.result first.0.high first.0.before first.1
    c.follows_cr.ensures c.if-follows_cr.false

pub returns-clause-valid : goal.returns-clause-valid
returns-clause-valid g c =
    let valid = subst (λ (r : RopeText). IsUtf8 r.bytes) c.self.view_is
    (pieces_valid c.self.inside.pieces.items c.self.invariant.each) in
    IsUtf8-take c.args.self.now.bytes c.in-Some.at valid (c.in-Some.ensures.cut (omega arith))
