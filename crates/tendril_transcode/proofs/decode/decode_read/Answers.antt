use Rattle.std.proofs.Common.{◌≡◌, ◌∙◌, ◌∷◌, [], ◌++◌, false, ap, arith, chars, inl, inr, length-append, refl}
use Rattle.std.proofs.Common.{subst, sym}
use Rattle.std.proofs.lemmas.List.Elements.{All-push}
use Rattle.std.proofs.lemmas.Result.{err_from_is_err_and}
use Rattle.tendril_transcode.proofs.DecoderReads.{heard, read_stops}
use Rattle.tendril_transcode.proofs.JoiningSinks.{ready_stands}
use Rattle.tendril_transcode.proofs.WrittenTexts.{front_of_text, writes_both, writes_text, writes_then_front}
use Rattle.tendril_transcode.specs.Transcodings.{JoinRefused, TranscodeStops, WritesFrontOfText, WritesText}
use Rattle.tendril_transcode.specs.Transcodings.{chars_so_far}
use Rattle.tendril_lossy.specs.Lossy.{characters}
use Rattle.tendril_stream.proofs.Fed.{given-push}
use Rattle.tendril_stream.specs.Decoders.{Decodes}
use Rattle.tendril_stream.specs.Readings.{ReadsOnce}
use Rattle.tendril_stream.specs.Sinks.{told_of}
use Rattle.tendril_stream.specs.Reads.{MayReadOn, given}
use Rattle.tendril_transcode.proofs.decode.decode_read.Goals as goal

pub returns-in_err-read_once-clause-stops : goal.returns-in_err-read_once-clause-stops
returns-in_err-read_once-clause-stops g c = λ start before these on some ready.
    let q = err_from_is_err_and c.from_residual.result c.from_residual.ensures.1 in rw (q.1, q.2) (
    read_stops g.K.PieceDecoding.decoding start (λ d. d.inner_sink) (λ d. d.kept) (λ d. d.failed) (λ s. chars s)
    (λ a e r b. (b ≡ a) × JoinRefused e r)
    (λ a r. ⊥)
    g.R.CountedRead.history g.R.CountedRead.remaining c.args.reader.now c.read_once.new.reader _ before _ these on
    some ready.writes g.met.K.PieceDecoding.is_decoding c.args.decoder.now c.read_once.new.sink _
    c.in_err-read_once.ensures.err ready.goes_on)

pub returns-in_err-write_text-clause-stops : goal.returns-in_err-write_text-clause-stops
returns-in_err-write_text-clause-stops g c = λ start before these on some ready.
    let decoding = g.K.PieceDecoding.decoding in
    let d = c.args.decoder.now in
    let n = c.read_once.new.sink in
    let once = subst (ReadsOnce g.R.CountedRead.history g.R.CountedRead.remaining c.args.reader.now
    c.read_once.new.reader d n
    (λ d e n. (d.failed ≡ false) × (n.failed ≡ false)
    × Decodes decoding (λ a e b. chars b ≡ chars a ++ characters (told_of e)) d.inner_sink d.kept e n.inner_sink
    n.kept))
    c.if-branch.false c.in_ok-read_once.ensures.ok in
    let bytes = n.inner_sink in
    let stands = ready_stands (λ s. chars s) decoding start these before _ d.kept d.inner_sink d.failed d.inner_sink
    ready refl in
    let m = heard decoding start (λ d. d.inner_sink) (λ d. d.kept) (λ d. d.failed) (λ s. chars s)
    (λ a e r b. (b ≡ a) × JoinRefused e r) (λ a r. ⊥) g.met.K.PieceDecoding.is_decoding
    (chars_so_far decoding start (given these))
    (given these) d n once.0 once.3 ready.goes_on stands in
    let tells = m.0.tells ∙ ap (chars_so_far decoding start) (sym (given-push these once.0)) in
    let front = subst (λ cs. WritesFrontOfText cs before (g.W.Write.contents c.write_text.new.out)) tells
    (writes_then_front _ _ _ (chars_so_far decoding start (given these)) (chars bytes) ready.writes
    (front_of_text _ _ bytes c.write_text.ensures.utf8 c.in_err-write_text.ensures.err)) in
    let q = err_from_is_err_and c.from_residual-in_err-write_text.result
    c.from_residual-in_err-write_text.ensures.1 in
    rw (q.1, q.2) ((
      once.0 ∷ [],
      once.2,
      subst (TranscodeStops decoding start _ (these ++ once.0 ∷ []) _ _ _)
          (sym c.in_err-write_text.ensures.refusal) (inr (inr (inl (
            refl,
            inl (front, All-push MayReadOn these once.0 on once.1),
            omega (arith, length-append these (once.0 ∷ []), some),
          )))),
    ))

pub returns-clause-read : goal.returns-clause-read
returns-clause-read g c = λ start before these ready not.
    let decoding = g.K.PieceDecoding.decoding in
    let d = c.args.decoder.now in
    let n = c.read_once.new.sink in
    let once = subst (ReadsOnce g.R.CountedRead.history g.R.CountedRead.remaining c.args.reader.now
    c.read_once.new.reader d n
    (λ d e n. (d.failed ≡ false) × (n.failed ≡ false)
    × Decodes decoding (λ a e b. chars b ≡ chars a ++ characters (told_of e)) d.inner_sink d.kept e n.inner_sink
    n.kept))
    c.if-branch.false c.in_ok-read_once.ensures.ok in
    let bytes = n.inner_sink in
    let stands = ready_stands (λ s. chars s) decoding start these before _ d.kept d.inner_sink d.failed d.inner_sink
    ready refl in
    let m = heard decoding start (λ d. d.inner_sink) (λ d. d.kept) (λ d. d.failed) (λ s. chars s)
    (λ a e r b. (b ≡ a) × JoinRefused e r) (λ a r. ⊥) g.met.K.PieceDecoding.is_decoding
    (chars_so_far decoding start (given these))
    (given these) d n once.0 once.3 ready.goes_on stands in
    let tells = m.0.tells ∙ ap (chars_so_far decoding start) (sym (given-push these once.0)) in (
      once.0,
      once.1,
      once.2,
      record {
        writes = subst (λ cs. WritesText cs before (g.W.Write.contents c.write_text.new.out)) tells
            (writes_both _ _ _ (chars_so_far decoding start (given these)) (chars bytes) ready.writes
            (writes_text _ _ bytes c.write_text.ensures.utf8 c.in_ok-write_text.ensures.ok));
        keeps = m.0.keeps ∙ ap (decoding.after start) (sym (given-push these once.0));
        goes_on = m.1;
        empty = c.clear.ensures;
      },
    )
