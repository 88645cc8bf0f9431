use Rattle.std.proofs.Common.{◌≡◌, ◌∙◌, ◌<◌, [], length, map, sym, subst, ap, arith, append-nil}
use Rattle.std.specs.Prelude.{IsUtf8}
use Rattle.std.proofs.lemmas.Bool.Decides.{nat_tests}
use Rattle.std.proofs.lemmas.List.{nil_from_length}
use Rattle.std.proofs.lemmas.Result.{IfErr-weaker, err_from_is_err_and, on_ok_weaker}
use Rattle.std.proofs.lemmas.Str.{chars-nil}
use Rattle.tendril_encoding.specs.Sends.{IsNew, IsShortOrNew, NoMemory, text_told}
use Rattle.tendril_encoding.proofs.New.{new_in, text_refused}
use Rattle.tendril_lossy.specs.Lossy.{Char}
use Rattle.tendril_text.proofs.Feeds.{Feeds-none, Feeds-one, Feeds-same, Stops-call}
use Rattle.tendril_stream.specs.Sinks.{Piece, told_of}
use Rattle.tendril_encoding.proofs.slices.send_text.Goals as goal

pub returns-then-is_empty-clause-ok : goal.returns-then-is_empty-clause-ok
returns-then-is_empty-clause-ok g c =
    let none : length c.args.text.now ≡ 0 = grind (arith, nat_tests) in
    Feeds-same g.S.TendrilSink.takes IsShortOrNew c.args.sink.now c.args.sink.now [] (text_told c.args.text.now)
    (sym (ap text_told (nil_from_length c.args.text.now none) ∙ ap (map Char) chars-nil))
    (Feeds-none g.S.TendrilSink.takes IsShortOrNew c.args.sink.now)

pub returns-clause-ok : goal.returns-clause-ok
returns-clause-ok g c =
    let t = c.in_ok-text.text in
    let is = c.in_ok-text.ensures.1.bytes in
    let some : 0 < length c.args.text.now = grind (arith, nat_tests) in
    let new : IsNew (Piece t) = subst (λ l. (0 < length l) × IsUtf8 l × (t.copied ≡ length l)) (sym is)
    (some, c.utf8.text, c.in_ok-text.ensures.1.copied) in
    on_ok_weaker c.send.result (λ takes.
    Feeds-same g.S.TendrilSink.takes IsShortOrNew c.args.sink.now c.send.new.sink (told_of (Piece t))
    (text_told c.args.text.now) (ap text_told is)
    (Feeds-one g.S.TendrilSink.takes IsShortOrNew c.args.sink.now (Piece t) c.send.new.sink (new_in (Piece t) new)
    takes)) c.send.ensures.ok

pub returns-clause-err : goal.returns-clause-err
returns-clause-err g c =
    let t = c.in_ok-text.text in
    let is = c.in_ok-text.ensures.1.bytes in
    let some : 0 < length c.args.text.now = grind (arith, nat_tests) in
    let new : IsNew (Piece t) = subst (λ l. (0 < length l) × IsUtf8 l × (t.copied ≡ length l)) (sym is)
    (some, c.utf8.text, c.in_ok-text.ensures.1.copied) in
    IfErr-weaker c.send.result _ _ (λ r refuses.
    Stops-call g.S.TendrilSink.takes g.S.TendrilSink.refuses IsShortOrNew NoMemory c.args.sink.now (Piece t) []
    (text_told c.args.text.now) r c.send.new.sink (new_in (Piece t) new)
    (append-nil (told_of (Piece t)) ∙ ap text_told is) refuses) c.send.ensures.err

pub returns-in_err-text-clause-err : goal.returns-in_err-text-clause-err
returns-in_err-text-clause-err g c =
    let p = err_from_is_err_and c.from_residual.result c.from_residual.ensures.1 in
    rw (p.1, p.2) (text_refused g.S.TendrilSink.takes g.S.TendrilSink.refuses c.args.sink.now c.args.text.now _
    c.requires c.in_err-text.ensures)
