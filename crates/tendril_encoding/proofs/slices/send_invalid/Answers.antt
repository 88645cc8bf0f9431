use Rattle.std.proofs.lemmas.Result.{IfErr-weaker, on_ok_weaker}
use Rattle.tendril_decode.specs.Machines.{invalid}
use Rattle.tendril_encoding.specs.Sends.{IsShortOrNew, NoMemory}
use Rattle.tendril_encoding.proofs.New.{no_count, short_in}
use Rattle.tendril_text.proofs.Feeds.{Feeds-weaker, Stops-weaker}
use Rattle.tendril_stream.specs.Decodings.{PieceMay}
use Rattle.tendril_stream.specs.Sinks.{IsSentOf}
use Rattle.tendril_text.specs.TextLists.{no_text}
use Rattle.tendril_encoding.proofs.slices.send_invalid.Goals as goal

pub returns-clause-ok : goal.returns-clause-ok
returns-clause-ok g c =
    on_ok_weaker c.replace.result (Feeds-weaker g.S.TendrilSink.takes IsShortOrNew (IsSentOf no_text) short_in
    c.args.sink.now c.replace.new.sink invalid) (c.replace.ensures.ok no_text)

pub returns-clause-err : goal.returns-clause-err
returns-clause-err g c =
    IfErr-weaker c.replace.result _ _ (λ r. Stops-weaker g.S.TendrilSink.takes g.S.TendrilSink.refuses IsShortOrNew
    NoMemory (IsSentOf no_text) (PieceMay no_text) short_in no_count c.args.sink.now c.replace.new.sink invalid r)
    (c.replace.ensures.err no_text)
