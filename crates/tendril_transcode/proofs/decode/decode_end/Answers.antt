use Rattle.std.proofs.Common.{◌≡◌, ◌∙◌, ◌++◌, ap, chars, inl, refl, subst}
use Rattle.std.proofs.lemmas.Result.{err_from_is_err_and, on_ok_weaker}
use Rattle.tendril_transcode.proofs.DecoderReads.{end_refused}
use Rattle.tendril_transcode.proofs.DecodingEnds.{on_err}
use Rattle.tendril_transcode.proofs.JoiningSinks.{ended, ready_stands}
use Rattle.tendril_transcode.proofs.WrittenTexts.{front_of_text, writes_both, writes_text, writes_then_front}
use Rattle.tendril_transcode.specs.Transcodings.{JoinRefused, WritesFrontOfText, WritesText, chars_of_all, chars_so_far}
use Rattle.tendril_stream.specs.Reads.{given}
use Rattle.tendril_transcode.proofs.decode.decode_end.Goals as goal

pub returns-clause-ok : goal.returns-clause-ok
returns-clause-ok g c = λ start before these ready.
    let decoding = g.K.PieceDecoding.decoding in
    let d = c.args.decoder in
    let bytes = c.in_ok-text.text in
    let stands = ready_stands (λ s. chars s) decoding start these before _ d.kept d.inner_sink d.failed d.inner_sink
    ready refl in
    let e = ended (λ s. chars s) decoding start (chars_so_far decoding start (given these)) (λ a o. o ≡ a)
    d.inner_sink d.kept
    (given these) c.in_ok-text.text stands c.in_ok-text.ensures.ok.1 in
    let is : chars_so_far decoding start (given these) ++ chars bytes ≡ chars_of_all decoding start (given these) =
    ap (λ l. chars_so_far decoding start (given these) ++ chars l) e.2 ∙ e.1 in
    on_ok_weaker c.write_text.result
    (λ h. subst (λ cs. WritesText cs before (g.W.Write.contents c.write_text.new.out)) is
    (writes_both _ _ _ (chars_so_far decoding start (given these)) (chars bytes) ready.writes
    (writes_text _ _ bytes c.write_text.ensures.utf8 h))) c.write_text.ensures.ok

pub returns-clause-stops : goal.returns-clause-stops
returns-clause-stops g c = λ start before these ready.
    let decoding = g.K.PieceDecoding.decoding in
    let d = c.args.decoder in
    let bytes = c.in_ok-text.text in
    let stands = ready_stands (λ s. chars s) decoding start these before _ d.kept d.inner_sink d.failed d.inner_sink
    ready refl in
    let e = ended (λ s. chars s) decoding start (chars_so_far decoding start (given these)) (λ a o. o ≡ a)
    d.inner_sink d.kept
    (given these) c.in_ok-text.text stands c.in_ok-text.ensures.ok.1 in
    let is : chars_so_far decoding start (given these) ++ chars bytes ≡ chars_of_all decoding start (given these) =
    ap (λ l. chars_so_far decoding start (given these) ++ chars l) e.2 ∙ e.1 in
    on_err c.write_text.result _ _ _ (λ r k h. inl (
      k,
      subst (λ cs. WritesFrontOfText cs before (g.W.Write.contents c.write_text.new.out)) is
          (writes_then_front _ _ _ (chars_so_far decoding start (given these)) (chars bytes) ready.writes
          (front_of_text _ _ bytes c.write_text.ensures.utf8 h)),
    )) c.write_text.ensures.refusal c.write_text.ensures.err

pub returns-in_err-text-clause-stops : goal.returns-in_err-text-clause-stops
returns-in_err-text-clause-stops g c = λ start before these ready.
    let q = err_from_is_err_and c.from_residual.result c.from_residual.ensures.1 in rw (q.1, q.2) (
    end_refused g.K.PieceDecoding.decoding start (λ d. d.inner_sink) (λ d. d.kept) (λ d. d.failed) (λ s. chars s)
    (λ a e r b. (b ≡ a) × JoinRefused e r) (λ a r. ⊥) c.args.decoder _ before _ these c.in_err-text.ensures.err
    ready.goes_on ready.writes)
