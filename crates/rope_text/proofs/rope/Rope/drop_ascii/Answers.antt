use Rattle.std.proofs.Common.{arith}
use Rattle.rope_text.proofs.Fronts.{dropped_more}
use Rattle.rope_text.proofs.rope.Rope.drop_ascii.Goals as goal

pub loop-preserved : goal.loop-preserved
loop-preserved g c =
    let pop = c.pop_front_char in
    dropped_more c.args.self.now.bytes c.args.self.now.pieces c.loop.counter c.loop.self pop.new.self pop.result
    (omega arith)
    (c.requires.ascii c.loop.counter (omega arith)) pop.ensures.bytes pop.ensures.pieces pop.ensures.none
    c.loop.invariant
