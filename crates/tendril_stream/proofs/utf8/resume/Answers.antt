use Rattle.std.proofs.Common.{◌≡◌, ◌<◌, ◌-◌, ◌∙◌, [], ◌++◌, inl, arith, sym, subst, ap, refl, length, map}
use Rattle.std.proofs.lemmas.Bool.Decides.{nat_tests}
use Rattle.std.proofs.lemmas.Result.{err_from_is_err_and}
use Rattle.std.proofs.lemmas.List.{nil_from_length}
use Rattle.std.specs.Str.{chars}
use Rattle.std.specs.Prelude.{codes, MatchResult}
use Rattle.tendril_lossy.proofs.Resume.{after_text, after_broken, still_open}
use Rattle.tendril_lossy.specs.Completions.{BreaksAt, CompletesTo}
use Rattle.tendril_lossy.specs.Lossy.{Char, due_open, kept, replaced}
use Rattle.tendril_stream.specs.Decodings.{PieceMay}
use Rattle.tendril_stream.proofs.Remainders.{piece_grows}
use Rattle.tendril_stream.specs.Sinks.{IsSentOf}
use Rattle.tendril_text.proofs.Feeds.{Feeds-none, Feeds-one, Stops-call, Stops-more}
use Rattle.tendril_stream.proofs.Remainders.{short_handed, rest_kept}
use Rattle.tendril_stream.specs.Sinks.{Piece}
use Rattle.tendril_stream.proofs.utf8.resume.Goals as goal

pub returns-then-is_empty-clause-ok : goal.returns-then-is_empty-clause-ok
returns-then-is_empty-clause-ok g c =
    let p = c.args.piece.now.bytes in
    let nil : c.args.kept.now ≡ [] = sym c.kept.ensures.bytes
    ∙ nil_from_length c.kept.result.now (grind (arith, nat_tests)) in (
      [],
      Feeds-none g.S.TendrilSink.takes (IsSentOf c.args.piece.now) c.args.sink.now,
      ap (λ l. due_open (l ++ p)) nil,
      ap
          (λ l. kept (l ++ p)) nil,
      nil,
      inl refl,
      (0, refl),
    )

pub returns-in_default-clause-ok : goal.returns-in_default-clause-ok
returns-in_default-clause-ok g c =
    let s = still_open c.args.kept.now c.args.piece.now.bytes c.complete_from.new.self c.in_default.ensures.none in
    (refl, s.0, sym s.1)

pub returns-in_err-replace-in-Err-clause-err : goal.returns-in_err-replace-in-Err-clause-err
returns-in_err-replace-in-Err-clause-err g c =
    let k = c.args.kept.now in
    let p = c.args.piece.now.bytes in
    let h = subst (λ f. MatchResult f (λ t. CompletesTo k p t c.complete_from.new.piece.bytes)
    (λ b. BreaksAt k p b c.complete_from.new.piece.bytes)) c.in-Err.is c.in-Some.ensures.completed in
    let a = after_broken k p c.in-Err.field-0 c.complete_from.new.piece.bytes h in
    let q = err_from_is_err_and c.from_residual-in_err-replace-in-Err.result
    c.from_residual-in_err-replace-in-Err.ensures.1 in
    rw (q.1, q.2) (Stops-more g.S.TendrilSink.takes g.S.TendrilSink.refuses (IsSentOf c.args.piece.now)
    (PieceMay c.args.piece.now) (piece_grows c.args.piece.now) c.args.sink.now
    c.replace.new.sink (replaced (codes "invalid byte sequence")) (due_open c.complete_from.new.piece.bytes)
    (due_open (k ++ p)) _ (c.in_err-replace-in-Err.ensures.err c.args.piece.now) (sym a.0))

pub returns-in_err-send-in-Ok-clause-err : goal.returns-in_err-send-in-Ok-clause-err
returns-in_err-send-in-Ok-clause-err g c =
    let k = c.args.kept.now in
    let p = c.args.piece.now.bytes in
    let rest = c.complete_from.new.piece.bytes in
    let t = c.from_short_str.result in
    let held : 0 < length c.kept.result.now = grind (arith, nat_tests) in
    let some : 0 < length k = subst (λ l. 0 < length l) c.kept.ensures.bytes held in
    let h = subst (λ f. MatchResult f (λ t. CompletesTo k p t rest) (λ b. BreaksAt k p b rest)) c.in-Ok.is
    c.in-Some.ensures.completed in
    let is : t.bytes ≡ c.in-Ok.text = c.from_short_str.ensures.bytes ∙ c.as_str.ensures in
    let whole : CompletesTo k p t.bytes rest = subst (λ l. CompletesTo k p l rest) (sym is) h in
    let a = after_text k p t.bytes rest whole in
    let fit = short_handed c.args.piece.now t k p rest some whole (c.from_short_str.ensures.copied
    ∙ sym (ap length c.from_short_str.ensures.bytes)) in
    let q = err_from_is_err_and c.from_residual.result c.from_residual.ensures.1 in
    rw (q.1, q.2) (Stops-call g.S.TendrilSink.takes g.S.TendrilSink.refuses (IsSentOf c.args.piece.now)
    (PieceMay c.args.piece.now) c.args.sink.now
    (Piece t) (due_open rest) (due_open (k ++ p)) _ c.send.new.sink fit (sym a.0) c.in_err-send-in-Ok.ensures.err)

pub returns-in_ok-send-in-Ok-clause-ok : goal.returns-in_ok-send-in-Ok-clause-ok
returns-in_ok-send-in-Ok-clause-ok g c =
    let k = c.args.kept.now in
    let p = c.args.piece.now.bytes in
    let rest = c.complete_from.new.piece.bytes in
    let t = c.from_short_str.result in
    let held : 0 < length c.kept.result.now = grind (arith, nat_tests) in
    let some : 0 < length k = subst (λ l. 0 < length l) c.kept.ensures.bytes held in
    let h = subst (λ f. MatchResult f (λ t. CompletesTo k p t rest) (λ b. BreaksAt k p b rest)) c.in-Ok.is
    c.in-Some.ensures.completed in
    let is : t.bytes ≡ c.in-Ok.text = c.from_short_str.ensures.bytes ∙ c.as_str.ensures in
    let whole : CompletesTo k p t.bytes rest = subst (λ l. CompletesTo k p l rest) (sym is) h in
    let a = after_text k p t.bytes rest whole in
    let fit = short_handed c.args.piece.now t k p rest some whole (c.from_short_str.ensures.copied
    ∙ sym (ap length c.from_short_str.ensures.bytes)) in (
      map Char (chars t.bytes),
      Feeds-one g.S.TendrilSink.takes (IsSentOf c.args.piece.now) c.args.sink.now
          (Piece t) c.send.new.sink fit c.in_ok-send-in-Ok.ensures.ok,
      a.0,
      a.1,
      c.in-Some.ensures.emptied,
      rest_kept
          c.args.piece.now c.complete_from.new.piece c.in-Some.ensures.copied,
      (length t.bytes - length k, whole.left),
    )

pub returns-in_ok-replace-in-Err-clause-ok : goal.returns-in_ok-replace-in-Err-clause-ok
returns-in_ok-replace-in-Err-clause-ok g c =
    let k = c.args.kept.now in
    let p = c.args.piece.now.bytes in
    let rest = c.complete_from.new.piece.bytes in
    let h = subst (λ f. MatchResult f (λ t. CompletesTo k p t rest) (λ b. BreaksAt k p b rest)) c.in-Err.is
    c.in-Some.ensures.completed in
    let a = after_broken k p c.in-Err.field-0 rest h in (
      replaced (codes "invalid byte sequence"),
      c.in_ok-replace-in-Err.ensures.ok c.args.piece.now,
      a.0,
      a.1,
      c.in-Some.ensures.emptied,
      rest_kept c.args.piece.now c.complete_from.new.piece c.in-Some.ensures.copied,
      (length c.in-Err.field-0 - length k, h.left),
    )
