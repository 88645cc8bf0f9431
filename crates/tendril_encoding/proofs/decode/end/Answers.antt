use Rattle.std.proofs.lemmas.Result.{IfErr-weaker, err_from_is_err_and, on_ok_weaker}
use Rattle.tendril_encoding.proofs.Decoded.{feeds_end, feeds_seen_end, stops_end, stops_seen, stops_seen_end}
use Rattle.tendril_encoding.proofs.decode.end.Goals as goal

pub returns-in_default-clause-ok : goal.returns-in_default-clause-ok
returns-in_default-clause-ok g c =
    on_ok_weaker c.end.result (feeds_end g.S.TendrilSink.takes g.S.TendrilSink.refuses c.args.state.now.known
    c.args.sink.now c.end.new.sink c.args.state.now.sniffing c.in_default.is) c.end.ensures.ok

pub returns-in_default-clause-err : goal.returns-in_default-clause-err
returns-in_default-clause-err g c =
    IfErr-weaker c.end.result _ _ (λ r. stops_end g.S.TendrilSink.takes g.S.TendrilSink.refuses c.args.state.now.known
    c.args.sink.now c.end.new.sink c.args.state.now.sniffing r c.in_default.is) c.end.ensures.err

pub returns-in_err-decode_seen-clause-err : goal.returns-in_err-decode_seen-clause-err
returns-in_err-decode_seen-clause-err g c =
    let p = err_from_is_err_and c.from_residual.result c.from_residual.ensures.1 in
    rw (p.1, p.2) (stops_seen g.S.TendrilSink.takes g.S.TendrilSink.refuses c.args.state.now.known
    c.in-Some.sniffing c.args.state.now.sniffing c.in-Some.is c.args.sink.now c.decode_seen.new.sink _
    c.in_err-decode_seen.ensures.err)

pub returns-clause-ok : goal.returns-clause-ok
returns-clause-ok g c =
    on_ok_weaker c.end-2.result (feeds_seen_end g.S.TendrilSink.takes g.S.TendrilSink.refuses c.args.state.now.known
    c.in-Some.sniffing c.args.state.now.sniffing c.in-Some.is c.args.sink.now c.decode_seen.new.sink c.end-2.new.sink
    c.decode_seen.new.chosen c.in_ok-decode_seen.ensures.ok) c.end-2.ensures.ok

pub returns-clause-err : goal.returns-clause-err
returns-clause-err g c =
    IfErr-weaker c.end-2.result _ _ (λ r. stops_seen_end g.S.TendrilSink.takes g.S.TendrilSink.refuses
    c.args.state.now.known c.in-Some.sniffing c.args.state.now.sniffing c.in-Some.is c.args.sink.now
    c.decode_seen.new.sink c.end-2.new.sink c.decode_seen.new.chosen r c.in_ok-decode_seen.ensures.ok)
    c.end-2.ensures.err
