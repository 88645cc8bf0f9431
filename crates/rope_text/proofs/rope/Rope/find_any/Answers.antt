use Rattle.std.proofs.Common.{◌+◌, length, Some, ap, arith}
use Rattle.rope_text.proofs.Found.{found_cut, found_in, none_in_all, none_in_more, piece_is}
use Rattle.rope_text.proofs.Located.{in_joined}
use Rattle.rope_text.proofs.Whole.{joined_pieces}
use Rattle.rope_text.specs.Ropes.{RopeText}
use Rattle.tendril_fmt.specs.Sets.{has_byte}
use Rattle.rope_text.proofs.rope.Rope.find_any.Goals as goal

pub overflow_add-result : goal.overflow_add-result
overflow_add-result g c =
    let rope = c.args.self.now in
    let piece = piece_is c.self.inside.pieces.items rope c.loop-index.index c.index.result.now c.self.view_is
    (omega arith) c.index.ensures in
    let is = ap length piece.1 in
    let high = c.in-Some.ensures.first.0.high in
    let within = in_joined rope.pieces c.loop-index.index c.in-Some.at piece.0 (omega arith) in
    let all = ap length (joined_pieces c.self.inside.pieces.items rope c.self.view_is) in
    let size = ap (λ (r : RopeText). length r.bytes) c.self.view_is in
    let counts = c.self.invariant.counts in
    let fits = c.self.invariant.fits in
    omega arith

pub returns-in-Some-clause-first : goal.returns-in-Some-clause-first
returns-in-Some-clause-first g c =
    let rope = c.args.self.now in
    let piece = piece_is c.self.inside.pieces.items rope c.loop-index.index c.index.result.now c.self.view_is
    (omega arith) c.index.ensures in
    let found = c.in-Some.ensures.first in
    rw (joined_pieces c.self.inside.pieces.items rope c.self.view_is)
    (found_in (has_byte c.args.set.now) rope.pieces c.loop-index.index c.in-Some.at _ c.index.result.now.bytes piece.0
    piece.1 (omega (arith, c.start_of.ensures)) found.0 found.1 c.loop-index.invariant)

pub returns-in-Some-clause-cut : goal.returns-in-Some-clause-cut
returns-in-Some-clause-cut g c = found_cut (has_byte c.args.set.now) c.args.self.now.bytes
    (Some (c.start_of.result + c.in-Some.at)) c.find_any.ensures.table.ascii (returns-in-Some-clause-first g c)

pub loop-index-preserved : goal.loop-index-preserved
loop-index-preserved g c =
    let rope = c.args.self.now in
    let piece = piece_is c.self.inside.pieces.items rope c.loop-index.index c.index.result.now c.self.view_is
    (omega arith) c.index.ensures in
    none_in_more (has_byte c.args.set.now) rope.pieces c.loop-index.index c.index.result.now.bytes piece.0 piece.1
    c.in_default.ensures.first c.loop-index.invariant

pub returns-clause-first : goal.returns-clause-first
returns-clause-first g c =
    let rope = c.args.self.now in
    let size = ap (λ (r : RopeText). length r.pieces) c.self.view_is in
    rw (joined_pieces c.self.inside.pieces.items rope c.self.view_is)
    (none_in_all (has_byte c.args.set.now) rope.pieces c.loop-index.index (omega arith) c.loop-index.invariant)
