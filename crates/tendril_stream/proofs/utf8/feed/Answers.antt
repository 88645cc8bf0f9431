use Rattle.std.proofs.Common.{◌∙◌, ◌++◌, sym, subst}
use Rattle.std.proofs.lemmas.Result.{err_from_is_err_and}
use Rattle.tendril_lossy.specs.Lossy.{due_open}
use Rattle.tendril_stream.specs.Decodings.{PieceMay}
use Rattle.tendril_stream.specs.Sinks.{IsSentOf}
use Rattle.tendril_stream.specs.Decoders.{ResumesPiece}
use Rattle.tendril_text.proofs.Feeds.{Feeds-append, Feeds-same, Stops-after}
use Rattle.tendril_text.proofs.Passing.{passed}
use Rattle.tendril_stream.proofs.Remainders.{Feeds-through, Stops-through, interrupted}
use Rattle.tendril_stream.proofs.utf8.feed.Goals as goal

pub returns-clause-ok : goal.returns-clause-ok
returns-clause-ok g c =
    let piece = c.args.piece in
    let rest = c.resume.new.piece in
    let all = due_open (c.args.held.now ++ piece.bytes) in
    let r = subst (λ done. ResumesPiece g.S.TendrilSink.takes c.args.sink.now c.args.held.now piece done
    c.resume.new.sink c.resume.new.kept rest) c.if-not-branch.false c.in_ok-resume.ensures.ok in
    let h = c.in_ok-held.ensures.ok in
    let f = passed g.S.TendrilSink.takes rest c.decode_into.new.self c.resume.new.sink c.decode_into.new.receiver h.0
    h.1 in (
      Feeds-same g.S.TendrilSink.takes (IsSentOf piece) c.args.sink.now c.decode_into.new.receiver
          (r.0 ++ due_open rest.bytes) all
          (sym r.2)
          (Feeds-append g.S.TendrilSink.takes (IsSentOf piece) c.args.sink.now c.resume.new.sink
          c.decode_into.new.receiver r.0 (due_open rest.bytes) r.1
          (Feeds-through g.S.TendrilSink.takes g.S.TendrilSink.refuses piece rest r.5 r.6 c.resume.new.sink
          c.decode_into.new.receiver (due_open rest.bytes) f.0)),
      h.2 ∙ f.1 ∙ sym r.3,
    )

pub returns-in_err-held-clause-err : goal.returns-in_err-held-clause-err
returns-in_err-held-clause-err g c =
    let piece = c.args.piece in
    let rest = c.resume.new.piece in
    let all = due_open (c.args.held.now ++ piece.bytes) in
    let r = subst (λ done. ResumesPiece g.S.TendrilSink.takes c.args.sink.now c.args.held.now piece done
    c.resume.new.sink c.resume.new.kept rest) c.if-not-branch.false c.in_ok-resume.ensures.ok in
    let q = err_from_is_err_and c.from_residual-in_err-held.result c.from_residual-in_err-held.ensures.1 in
    rw (q.1, q.2) (
    Stops-after g.S.TendrilSink.takes g.S.TendrilSink.refuses (IsSentOf piece)
    (PieceMay piece) c.args.sink.now c.resume.new.sink
    c.decode_into.new.receiver r.0 (due_open rest.bytes) all _ r.1
    (Stops-through g.S.TendrilSink.takes g.S.TendrilSink.refuses piece rest r.5 r.6 c.resume.new.sink
    c.decode_into.new.receiver (due_open rest.bytes) _
    (interrupted g.S.TendrilSink.takes g.S.TendrilSink.refuses rest c.decode_into.new.self c.resume.new.sink
    c.decode_into.new.receiver _ c.in_err-held.ensures.err))
    (sym r.2))
