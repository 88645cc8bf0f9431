use Rattle.tendril_fmt.proofs.Pieces.{line_crlf, line_lf}
use Rattle.tendril_fmt.proofs.cuts.lines.first_line.Goals as goal

pub returns-then-follows_cr-clause-line : goal.returns-then-follows_cr-clause-line
returns-then-follows_cr-clause-line g c =
    let at = c.in-Some.ensures in
    let cr = c.follows_cr in
    line_crlf c.args.bytes.now c.in-Some.at cr.result at.0.high at.0.before at.1 cr.ensures c.if-follows_cr.true

pub returns-clause-line : goal.returns-clause-line
returns-clause-line g c =
    let at = c.in-Some.ensures in
    let cr = c.follows_cr in
    line_lf c.args.bytes.now c.in-Some.at cr.result at.0.high at.0.before at.1 cr.ensures c.if-follows_cr.false
