use Rattle.std.proofs.Common.{◌≡◌, ◌∙◌, ◌<◌, [], length, sym, subst, ap, arith, codes, append-nil}
use Rattle.std.proofs.lemmas.Bool.Decides.{nat_tests}
use Rattle.std.proofs.lemmas.Result.{IfErr-weaker, on_ok_weaker}
use Rattle.tendril_lossy.specs.Lossy.{due, replaced}
use Rattle.tendril_stream.specs.Decodings.{PieceMay}
use Rattle.tendril_stream.proofs.Remainders.{piece_grows}
use Rattle.tendril_stream.specs.Sinks.{IsSentOf}
use Rattle.tendril_stream.proofs.Ends.{due_held, due_none}
use Rattle.tendril_text.proofs.Feeds.{Feeds-none, Feeds-same, Stops-more}
use Rattle.tendril_text.specs.TextLists.{no_text}
use Rattle.tendril_stream.proofs.utf8.flush.Goals as goal

pub returns-then-is_empty-clause-ok : goal.returns-then-is_empty-clause-ok
returns-then-is_empty-clause-ok g c =
    let none : length c.kept.result.now ≡ 0 = grind (arith, nat_tests) in
    Feeds-same g.S.TendrilSink.takes (IsSentOf no_text) c.args.sink.now c.args.sink.now [] (due c.args.held.now)
    (sym (due_none c.args.held.now (sym (ap length c.kept.ensures.bytes) ∙ none)))
    (Feeds-none g.S.TendrilSink.takes (IsSentOf no_text) c.args.sink.now)

pub returns-clause-err : goal.returns-clause-err
returns-clause-err g c =
    let some : 0 < length c.kept.result.now = grind (arith, nat_tests) in
    let held = due_held c.args.held.now c.kept.ensures.waits (subst (λ l. 0 < length l) c.kept.ensures.bytes some) in
    IfErr-weaker c.replace.result _ _ (λ refusal stops.
    Stops-more g.S.TendrilSink.takes g.S.TendrilSink.refuses (IsSentOf no_text) (PieceMay no_text)
    (piece_grows no_text) c.args.sink.now c.replace.new.sink
    (replaced (codes "incomplete byte sequence at end of stream")) [] (due c.args.held.now) refusal stops
    (append-nil _ ∙ sym held)) (c.replace.ensures.err no_text)

pub returns-clause-ok : goal.returns-clause-ok
returns-clause-ok g c =
    let some : 0 < length c.kept.result.now = grind (arith, nat_tests) in
    let held = due_held c.args.held.now c.kept.ensures.waits (subst (λ l. 0 < length l) c.kept.ensures.bytes some) in
    on_ok_weaker c.replace.result (Feeds-same g.S.TendrilSink.takes
    (IsSentOf no_text) c.args.sink.now c.replace.new.sink
    (replaced (codes "incomplete byte sequence at end of stream")) (due c.args.held.now) (sym held))
    (c.replace.ensures.ok no_text)
