use Rattle.std.proofs.Common.{rules}
use Rattle.tendril_fmt.proofs.Pieces.{without_lf}
use Rattle.tendril_fmt.proofs.cuts.lines.line_ending_len.Goals as goal

pub returns-in-10-2-clause-without : goal.returns-in-10-2-clause-without
returns-in-10-2-clause-without g c =
    without_lf c.args.bytes.now c.in-10.len_at_least (search rules) (λ cr. search rules)
