use Rattle.std.proofs.Common.{⊎_elim, inl, inr, refl}
use Rattle.std.proofs.lemmas.Result.{IfOk-weaker, IfErr-weaker}
use Rattle.tendril_encoding.specs.StateLaws.{is_decoding_from}
use Rattle.tendril_encoding.specs.States.{decoding_from}
use Rattle.tendril_stream.proofs.Own.{unfailed}
use Rattle.tendril_stream.proofs.Refused.{stops_at_end, stops_at_piece}
use Rattle.tendril_stream.proofs.Stands.{bytes_of, ends_at, stands_from_nothing}
use Rattle.tendril_encoding.proofs.pieces.decode_all.Goals as goal

pub returns-clause-ok : goal.returns-clause-ok
returns-clause-ok g c = IfOk-weaker c.from_iter.result _ _ (λ out h.
    let start = c.args.decoder.decoder.kept in
    let decoding = decoding_from start in
    let is = is_decoding_from start c.requires.start in
    let a = h.1 in
    let all = stands_from_nothing decoding is g.S.TendrilSink.takes g.S.Tracks.after g.met.S.Tracks.goes_on
    (λ d. d.decoder.inner_sink) (λ d. d.decoder.kept) (λ d. d.decoder.failed) a.sent c.args.decoder h.0
    c.args.decoder.decoder.inner_sink refl refl c.requires.new a.calls in (
      a.iterator,
      a.last,
      a.sent,
      a.made,
      a.yields,
      ends_at decoding is g.S.TendrilSink.takes g.S.Tracks.after g.met.S.Tracks.goes_on g.S.TendrilSink.finishes
          h.0.decoder.inner_sink h.0.decoder.kept (bytes_of a.sent) out all h.2.1,
    ))
    c.from_iter.ensures.ok

pub returns-clause-refusal : goal.returns-clause-refusal
returns-clause-refusal g c = IfErr-weaker c.from_iter.result _ _ (λ r h.
    let start = c.args.decoder.decoder.kept in
    let decoding = decoding_from start in
    let is = is_decoding_from start c.requires.start in
    ⊎_elim
    (λ k.
    let a = k.1 in
    let at = stands_from_nothing decoding is g.S.TendrilSink.takes g.S.Tracks.after g.met.S.Tracks.goes_on
    (λ d. d.decoder.inner_sink) (λ d. d.decoder.kept) (λ d. d.decoder.failed) a.sent c.args.decoder a.sunk
    c.args.decoder.decoder.inner_sink refl refl c.requires.new a.calls in
    let running = unfailed (λ d. d.decoder.failed) _ a.sent c.args.decoder a.sunk c.requires.failed a.calls in
    record {
      iterator = a.iterator;
      made = a.made;
      read = a.sent;
      last = a.last;
      sink = a.sunk.decoder.inner_sink;
      tells = at.tells;
      stop = inl (
        a.next,
        a.yields,
        k.0.decoder.inner_sink,
        stops_at_piece decoding g.S.TendrilSink.takes g.S.TendrilSink.refuses (λ d. d.decoder.inner_sink)
            (λ d. d.decoder.kept) (λ d. d.decoder.failed) a.sunk a.next r k.0 (bytes_of a.sent) running at.keeps
            a.refused,
      );
    })
    (λ k.
    let a = k.1 in
    let at = stands_from_nothing decoding is g.S.TendrilSink.takes g.S.Tracks.after g.met.S.Tracks.goes_on
    (λ d. d.decoder.inner_sink) (λ d. d.decoder.kept) (λ d. d.decoder.failed) a.sent c.args.decoder k.0
    c.args.decoder.decoder.inner_sink refl refl c.requires.new a.calls in
    let running = unfailed (λ d. d.decoder.failed) _ a.sent c.args.decoder k.0 c.requires.failed a.calls in
    record {
      iterator = a.iterator;
      made = a.made;
      read = a.sent;
      last = a.last;
      sink = k.0.decoder.inner_sink;
      tells = at.tells;
      stop = inr (
        a.yields,
        stops_at_end decoding g.S.TendrilSink.takes g.S.TendrilSink.refuses (λ d. d.decoder.inner_sink)
            (λ d. d.decoder.kept) (λ d. d.decoder.failed) g.S.TendrilSink.ends k.0 r (bytes_of a.sent) running
            at.keeps k.2,
      );
    })
    h) c.from_iter.ensures.err
