use Rattle.std.proofs.lemmas.Result.{IfErr-weaker, on_ok_weaker}
use Rattle.tendril_encoding.proofs.Wholes.{end_stops_slices, ends_slices}
use Rattle.tendril_encoding.proofs.known.Chosen.end.Goals as goal

pub returns-in-Slices-clause-ok : goal.returns-in-Slices-clause-ok
returns-in-Slices-clause-ok g c =
    on_ok_weaker c.end_slices.result (ends_slices g.S.TendrilSink.takes g.S.TendrilSink.refuses c.args.self.now
    c.in-Slices.decoder c.in-Slices.is c.args.sink.now c.end_slices.new.sink) c.end_slices.ensures.told

pub returns-in-Slices-clause-err : goal.returns-in-Slices-clause-err
returns-in-Slices-clause-err g c =
    IfErr-weaker c.end_slices.result _ _ (end_stops_slices g.S.TendrilSink.takes g.S.TendrilSink.refuses
    c.args.self.now c.in-Slices.decoder c.in-Slices.is c.args.sink.now c.end_slices.new.sink) c.end_slices.ensures.err
