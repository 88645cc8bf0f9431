use Rattle.std.proofs.lemmas.Result.{IfErr-weaker, err_from_is_err_and}
use Rattle.tendril_stream.proofs.LineTurns.{line_refused, line_sent, line_stops, no_line, rest_stops}
use Rattle.tendril_stream.proofs.lines.send_lines.Goals as goal

pub lines-init : goal.lines-init
lines-init g c = no_line g.S.TendrilSink.takes c.args.line.now c.args.text c.args.sink.now

pub returns-in_err-next-clause-err : goal.returns-in_err-next-clause-err
returns-in_err-next-clause-err g c =
    let p = err_from_is_err_and c.from_residual.result c.from_residual.ensures.1 in
    rw (p.1, p.2) (line_stops g.S.TendrilSink.takes c.args.line.now c.args.text c.args.sink.now g.S.TendrilSink.refuses
    c.lines.sink c.lines.line c.lines.rest _ c.lines.invariant c.in_err-next.ensures.err)

pub lines-preserved : goal.lines-preserved
lines-preserved g c = line_sent g.S.TendrilSink.takes c.args.line.now c.args.text c.args.sink.now c.lines.sink
    c.send.new.sink c.lines.line c.complete.new.self c.lines.rest c.complete.new.rest c.in_ok-next.next
    c.lines.invariant c.in_ok-next.ensures.ok c.in_ok-next.ensures.empty c.in_ok-send.ensures.ok

pub returns-in_err-send-clause-err : goal.returns-in_err-send-clause-err
returns-in_err-send-clause-err g c =
    let p = err_from_is_err_and c.from_residual-in_err-send.result c.from_residual-in_err-send.ensures.1 in
    rw (p.1, p.2) (line_refused g.S.TendrilSink.takes c.args.line.now c.args.text c.args.sink.now
    g.S.TendrilSink.refuses c.lines.sink c.send.new.sink c.lines.line c.lines.rest c.complete.new.rest
    c.in_ok-next.next _ c.lines.invariant c.in_ok-next.ensures.ok c.in_err-send.ensures.err)

pub returns-clause-err : goal.returns-clause-err
returns-clause-err g c = IfErr-weaker c.keep.result _ _ (λ r h.
    rest_stops g.S.TendrilSink.takes c.args.line.now c.args.text c.args.sink.now g.S.TendrilSink.refuses c.lines.sink
    c.lines.line c.lines.rest r c.lines.invariant h) c.keep.ensures.err
