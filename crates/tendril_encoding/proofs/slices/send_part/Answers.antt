use Rattle.std.proofs.Common.{◌++◌, refl, subst, sym}
use Rattle.std.proofs.lemmas.Result.{IfErr-weaker, err_from_is_err_and, on_ok_weaker}
use Rattle.tendril_decode.specs.Machines.{broken_marks, invalid}
use Rattle.tendril_encoding.specs.Sends.{FeedsNew, IsShortOrNew, NewStops, NoMemory, text_told}
use Rattle.tendril_encoding.proofs.New.{no_memory_grows}
use Rattle.tendril_text.proofs.Feeds.{Feeds-append, Stops-after, Stops-more}
use Rattle.tendril_encoding.proofs.slices.send_part.Goals as goal

pub returns-then-broken-clause-ok : goal.returns-then-broken-clause-ok
returns-then-broken-clause-ok g c =
    on_ok_weaker c.send_invalid.result (λ sends.
    subst (λ b. FeedsNew g.S.TendrilSink.takes c.args.sink.now (text_told c.args.text.now ++ broken_marks b)
    c.send_invalid.new.sink) (sym c.if-broken.true)
    (Feeds-append g.S.TendrilSink.takes IsShortOrNew c.args.sink.now c.send_text.new.sink c.send_invalid.new.sink
    (text_told c.args.text.now) invalid c.in_ok-send_text.ensures.ok sends)) c.send_invalid.ensures.ok

pub returns-then-broken-clause-err : goal.returns-then-broken-clause-err
returns-then-broken-clause-err g c =
    let text = text_told c.args.text.now in
    IfErr-weaker c.send_invalid.result _ _ (λ r stops.
    subst (λ b. NewStops g.S.TendrilSink.takes g.S.TendrilSink.refuses c.args.sink.now (text ++ broken_marks b) r
    c.send_invalid.new.sink) (sym c.if-broken.true)
    (Stops-after g.S.TendrilSink.takes g.S.TendrilSink.refuses IsShortOrNew NoMemory c.args.sink.now
    c.send_text.new.sink c.send_invalid.new.sink text invalid (text ++ invalid) r c.in_ok-send_text.ensures.ok stops
    refl)) c.send_invalid.ensures.err

pub returns-in_err-send_text-clause-err : goal.returns-in_err-send_text-clause-err
returns-in_err-send_text-clause-err g c =
    let text = text_told c.args.text.now in
    let p = err_from_is_err_and c.from_residual.result c.from_residual.ensures.1 in
    rw (p.1, p.2) (Stops-more g.S.TendrilSink.takes g.S.TendrilSink.refuses IsShortOrNew NoMemory no_memory_grows
    c.args.sink.now c.send_text.new.sink text (broken_marks c.args.broken) (text ++ broken_marks c.args.broken) _
    c.in_err-send_text.ensures.err refl)
