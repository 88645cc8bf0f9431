use Rattle.std.proofs.Common.{⊎_elim, inl, inr}
use Rattle.std.proofs.lemmas.Result.{IfOk-weaker, IfErr-weaker}
use Rattle.tendril_stream.proofs.Handed.{handed_all}
use Rattle.tendril_stream.specs.Decodings.{utf8}
use Rattle.tendril_stream.specs.Utf8Laws.{is_utf8}
use Rattle.tendril_stream.proofs.Own.{unfailed}
use Rattle.tendril_stream.proofs.Refused.{stops_at_end, stops_at_piece}
use Rattle.tendril_stream.proofs.Stands.{bytes_of, ends_at, stands_from_nothing}
use Rattle.tendril_stream.proofs.pieces.decode_pieces_into.Goals as goal

pub returns-clause-ok : goal.returns-clause-ok
returns-clause-ok g c = IfOk-weaker c.from_iter.result _ _ (λ out h.
    let d = c.new.result in
    let a = h.1 in
    let all = stands_from_nothing utf8 is_utf8 g.S.TendrilSink.takes g.S.Tracks.after g.met.S.Tracks.goes_on
    (λ d. d.inner_sink)
    (λ d. d.kept) (λ d. d.failed) a.sent d h.0 c.args.sink c.new.ensures.sink c.new.ensures.kept c.requires.new
    a.calls in (
      a.iterator,
      a.last,
      a.sent,
      a.made,
      a.yields,
      ends_at utf8 is_utf8 g.S.TendrilSink.takes g.S.Tracks.after
          g.met.S.Tracks.goes_on g.S.TendrilSink.finishes h.0.inner_sink h.0.kept (bytes_of a.sent) out all h.2.1,
    ))
    c.from_iter.ensures.ok

pub returns-clause-shares : goal.returns-clause-shares
returns-clause-shares g c = IfOk-weaker c.from_iter.result _ _ (λ out h.
    let a = h.1 in
    let sends = handed_all utf8 is_utf8 g.S.TendrilSink.takes (λ d. d.inner_sink) (λ d. d.kept) (λ d. d.failed)
    g.S.TendrilSink.finishes a.sent c.new.result h.0 c.args.sink out c.new.ensures.sink c.new.ensures.kept a.calls
    h.2.1 in
    (a.iterator, a.last, a.sent, a.made, a.yields, (sends.0, sends.2, sends.1)))
    c.from_iter.ensures.ok

pub returns-clause-refusal : goal.returns-clause-refusal
returns-clause-refusal g c = IfErr-weaker c.from_iter.result _ _ (λ r h.
    let d = c.new.result in
    ⊎_elim
    (λ k.
    let a = k.1 in
    let at = stands_from_nothing utf8 is_utf8 g.S.TendrilSink.takes g.S.Tracks.after g.met.S.Tracks.goes_on
    (λ d. d.inner_sink)
    (λ d. d.kept) (λ d. d.failed) a.sent d a.sunk c.args.sink c.new.ensures.sink c.new.ensures.kept c.requires.new
    a.calls in
    let running = unfailed (λ d. d.failed) _ a.sent d a.sunk c.new.ensures.failed a.calls in
    record {
      iterator = a.iterator;
      made = a.made;
      read = a.sent;
      last = a.last;
      sink = a.sunk.inner_sink;
      tells = at.tells;
      stop = inl (
        a.next,
        a.yields,
        k.0.inner_sink,
        stops_at_piece utf8 g.S.TendrilSink.takes g.S.TendrilSink.refuses
            (λ d. d.inner_sink) (λ d. d.kept) (λ d. d.failed) a.sunk a.next r k.0 (bytes_of a.sent) running at.keeps
            a.refused,
      );
    })
    (λ k.
    let a = k.1 in
    let at = stands_from_nothing utf8 is_utf8 g.S.TendrilSink.takes g.S.Tracks.after g.met.S.Tracks.goes_on
    (λ d. d.inner_sink)
    (λ d. d.kept) (λ d. d.failed) a.sent d k.0 c.args.sink c.new.ensures.sink c.new.ensures.kept c.requires.new
    a.calls in
    let running = unfailed (λ d. d.failed) _ a.sent d k.0 c.new.ensures.failed a.calls in
    record {
      iterator = a.iterator;
      made = a.made;
      read = a.sent;
      last = a.last;
      sink = k.0.inner_sink;
      tells = at.tells;
      stop = inr (
        a.yields,
        stops_at_end utf8 g.S.TendrilSink.takes g.S.TendrilSink.refuses (λ d. d.inner_sink)
            (λ d. d.kept) (λ d. d.failed) g.S.TendrilSink.ends k.0 r (bytes_of a.sent) running at.keeps k.2,
      );
    })
    h) c.from_iter.ensures.err
