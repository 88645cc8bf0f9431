use Rattle.std.proofs.Common.{inl, inr}
use Rattle.std.proofs.lemmas.Result.{IfErr-weaker, IfOk-weaker, err_from_is_err_and}
use Rattle.tendril_stream.proofs.sink.TendrilSink.from_iter.Goals as goal

pub returns-in_err-send_all-clause-err : goal.returns-in_err-send_all-clause-err
returns-in_err-send_all-clause-err g c = let p =
    err_from_is_err_and c.from_residual.result c.from_residual.ensures.1 in
    rw (p.1, p.2) (inl (c.send_all.new.self, c.in_err-send_all.ensures.err))

pub returns-clause-ok : goal.returns-clause-ok
returns-clause-ok g c = IfOk-weaker c.finish.result _ _
    (λ out h. (c.send_all.new.self, c.in_ok-send_all.ensures.ok, h)) c.finish.ensures.ok

pub returns-clause-err : goal.returns-clause-err
returns-clause-err g c = IfErr-weaker c.finish.result _ _
    (λ r h. inr (c.send_all.new.self, c.in_ok-send_all.ensures.ok, h)) c.finish.ensures.err
