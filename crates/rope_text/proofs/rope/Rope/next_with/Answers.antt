use Rattle.std.proofs.Common.{◌+◌, ◌≤◌, length, take, ap, arith}
use Rattle.rope_text.proofs.Passed.{begins_before}
use Rattle.rope_text.proofs.Whole.{joined_pieces}
use Rattle.rope_text.specs.Ropes.{RopeText}
use Rattle.tendril_text.specs.TextLists.{bytes_of_all}
use Rattle.rope_text.proofs.rope.Rope.next_with.Goals as goal

pub prove-unreachable-requires : goal.prove-unreachable-requires
prove-unreachable-requires g c =
    let rope = c.args.self.now in
    let all = ap length (joined_pieces c.self.inside.pieces.items rope c.self.view_is) in
    let size = ap (λ (r : RopeText). length r.pieces) c.self.view_is in
    let there = begins_before rope.pieces c.args.from c.args.at c.requires.start (omega arith) in
    omega arith

pub loop-index-preserved : goal.loop-index-preserved
loop-index-preserved g c =
    let rope = c.args.self.now in
    let all = ap length (joined_pieces c.self.inside.pieces.items rope c.self.view_is) in
    let start = c.end_of.ensures in
    let passed : length (bytes_of_all (take (c.loop-index.index + 1) rope.pieces)) ≤ c.args.at = omega arith in
    record { there = begins_before rope.pieces (c.loop-index.index + 1) c.args.at passed (omega arith); start = passed }
