use Rattle.tendril_stream.proofs.LineCuts.{keep_stops, not_empty}
use Rattle.tendril_stream.proofs.line_start.LineStart.keep.Goals as goal

pub returns-clause-err : goal.returns-clause-err
returns-clause-err g c =
    let kept = c.self.inside.text in
    rw (← c.self.view_is) (keep_stops kept.bytes c.args.rest.bytes kept c.push_tendril.new.self c.push_tendril.result
    c.self.invariant c.requires (not_empty c.is_empty.result kept.bytes c.is_empty.ensures c.if-is_empty.false)
    c.push_tendril.ensures.outcome)
