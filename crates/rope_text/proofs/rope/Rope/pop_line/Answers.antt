use Rattle.rope_text.proofs.Lines.{line_cut}
use Rattle.rope_text.proofs.rope.Rope.pop_line.Goals as goal

pub returns-clause-line : goal.returns-clause-line
returns-clause-line g c =
    let first = c.first_line-len in
    let dropped = c.drop_ascii.ensures in
    line_cut c.args.self.now c.in_ok-line.line c.try_split_to.new.self c.drop_ascii.new.self first.result.0
    first.result.1
    first.ensures.within first.ensures.line c.in_ok-line.ensures.1 dropped.bytes dropped.pieces
