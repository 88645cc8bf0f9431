use Rattle.rope_text.proofs.Passed.{passed_in}
use Rattle.rope_text.proofs.rope.Rope.passed.Goals as goal

pub returns-clause-start : goal.returns-clause-start
returns-clause-start g c = (passed_in c.args.self.now.pieces c.args.low c.args.step c.args.at _ _ _ c.requires.step
    c.requires.start c.end_of-first.ensures c.end_of-second.ensures c.end_of-third.ensures).start

pub returns-clause-end : goal.returns-clause-end
returns-clause-end g c = (passed_in c.args.self.now.pieces c.args.low c.args.step c.args.at _ _ _ c.requires.step
    c.requires.start c.end_of-first.ensures c.end_of-second.ensures c.end_of-third.ensures).end
