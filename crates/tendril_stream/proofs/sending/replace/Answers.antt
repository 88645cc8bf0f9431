use Rattle.std.proofs.lemmas.Result.{IfErr-weaker}
use Rattle.tendril_lossy.specs.Lossy.{replaced}
use Rattle.tendril_stream.specs.Sinks.{IsSentOf}
use Rattle.tendril_stream.proofs.Remainders.{only_refused}
use Rattle.tendril_stream.proofs.sending.replace.Goals as goal

pub returns-clause-err : goal.returns-clause-err
returns-clause-err g c = λ piece.
    IfErr-weaker c.replace_by.result _ _ (λ r stops.
    only_refused g.S.TendrilSink.takes g.S.TendrilSink.refuses (IsSentOf piece) piece c.args.sink.now
    c.replace_by.new.receiver (replaced c.args.words.now) r stops) (c.replace_by.ensures.err piece)
