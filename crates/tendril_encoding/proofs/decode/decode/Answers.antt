use Rattle.std.proofs.Common.{subst, sym, true≢false}
use Rattle.std.proofs.lemmas.Result.{IfErr-weaker, err_from_is_err_and, on_ok_weaker}
use Rattle.tendril_encoding.proofs.Decoded.{feeds_decided, feeds_known, stops_begin, stops_decided, stops_known}
use Rattle.tendril_encoding.specs.Starts.{Begins}
use Rattle.tendril_encoding.proofs.decode.decode.Goals as goal

pub returns-in_default-clause-ok : goal.returns-in_default-clause-ok
returns-in_default-clause-ok g c =
    on_ok_weaker c.decode.result (feeds_known g.S.TendrilSink.takes g.S.TendrilSink.refuses c.args.state.now.known
    c.args.piece c.args.sink.now c.decode.new.sink c.decode.new.self c.args.state.now.sniffing c.in_default.is)
    c.decode.ensures.ok

pub returns-in_default-clause-err : goal.returns-in_default-clause-err
returns-in_default-clause-err g c =
    IfErr-weaker c.decode.result _ _ (λ r. stops_known g.S.TendrilSink.takes g.S.TendrilSink.refuses
    c.args.state.now.known c.args.piece c.args.sink.now c.decode.new.sink c.args.state.now.sniffing r c.in_default.is)
    c.decode.ensures.err

pub returns-in_err-left-clause-err : goal.returns-in_err-left-clause-err
returns-in_err-left-clause-err g c =
    let p = err_from_is_err_and c.from_residual.result c.from_residual.ensures.1 in
    rw (p.1, p.2) (stops_begin g.S.TendrilSink.takes g.S.TendrilSink.refuses c.args.state.now.known c.args.piece
    c.in-Some.sniffing c.args.state.now.sniffing c.in-Some.is c.args.sink.now c.begin.new.sink _
    (λ nothing ascii. absurd (true≢false (sym (c.in_err-left.ensures.ascii nothing ascii)))) c.in_err-left.ensures.err)

pub returns-clause-ok : goal.returns-clause-ok
returns-clause-ok g c =
    let s = c.in-Some.sniffing in
    let begun = subst (λ o. Begins g.S.TendrilSink.takes c.args.sink.now c.args.state.now.known s c.args.piece o
    c.begin.new.sink c.begin.new.known c.begin.new.piece) c.in_default-2.is c.in_ok-left.ensures.ok in
    on_ok_weaker c.decode-2.result (feeds_decided g.S.TendrilSink.takes g.S.TendrilSink.refuses c.args.state.now.known
    c.args.piece s c.args.state.now.sniffing c.in-Some.is c.args.sink.now c.begin.new.sink c.begin.new.known
    c.begin.new.piece begun c.decode-2.new.sink c.decode-2.new.self) c.decode-2.ensures.ok

pub returns-clause-err : goal.returns-clause-err
returns-clause-err g c =
    let s = c.in-Some.sniffing in
    let begun = subst (λ o. Begins g.S.TendrilSink.takes c.args.sink.now c.args.state.now.known s c.args.piece o
    c.begin.new.sink c.begin.new.known c.begin.new.piece) c.in_default-2.is c.in_ok-left.ensures.ok in
    IfErr-weaker c.decode-2.result _ _ (stops_decided g.S.TendrilSink.takes g.S.TendrilSink.refuses
    c.args.state.now.known c.args.piece s c.args.state.now.sniffing c.in-Some.is c.args.sink.now c.begin.new.sink
    c.begin.new.known c.begin.new.piece begun c.decode-2.new.sink) c.decode-2.ensures.err
