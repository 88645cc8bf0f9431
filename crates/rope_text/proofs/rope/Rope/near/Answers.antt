use Rattle.std.proofs.Common.{◌≡◌, ◌/◌, length, ap, arith}
use Rattle.rope_text.proofs.Passed.{AreLeft-all, AreLeft-few, AreLeft-more, begins_before}
use Rattle.rope_text.proofs.Whole.{joined_pieces}
use Rattle.rope_text.specs.Ropes.{RopeText}
use Rattle.rope_text.proofs.rope.Rope.near.Goals as goal

pub overflow_sub-count : goal.overflow_sub-count
overflow_sub-count g c =
    let rope = c.args.self.now in
    let all = ap length (joined_pieces c.self.inside.pieces.items rope c.self.view_is) in
    let size = ap (λ (r : RopeText). length r.pieces) c.self.view_is in
    let there = begins_before rope.pieces c.args.first c.args.at c.requires.start (omega arith) in
    omega arith

pub loop-count-init : goal.loop-count-init
loop-count-init g c =
    let rope = c.args.self.now in
    let all = ap length (joined_pieces c.self.inside.pieces.items rope c.self.view_is) in
    let size = ap (λ (r : RopeText). length r.pieces) c.self.view_is in
    let count : c.len.result ≡ length rope.pieces = omega arith in
    let left = AreLeft-all rope.pieces c.args.first c.args.at c.requires.start (omega arith) in
    record { start = c.requires.start; left = rw count left }

pub passed-requires : goal.passed-requires
passed-requires g c =
    let size = ap (λ (r : RopeText). length r.pieces) c.self.view_is in
    let there = c.loop-count.invariant.left.there in
    record { step = omega arith; there = omega arith; fits = omega arith; start = c.loop-count.invariant.start }

pub loop-count-preserved : goal.loop-count-preserved
loop-count-preserved g c = record {
  start = c.passed.ensures.start;
  left = AreLeft-more c.args.self.now.pieces c.loop-count.low c.loop-count.count c.args.at
      (c.loop-count.count / 4) c.passed.result (omega arith) c.passed.ensures.most c.passed.ensures.end
      c.loop-count.invariant.left;
}

pub returns-clause-end : goal.returns-clause-end
returns-clause-end g c = AreLeft-few c.args.self.now.pieces c.loop-count.low c.loop-count.count c.args.at
    (omega arith) c.loop-count.invariant.left
