use Rattle.std.proofs.Common.{◌≡◌, ◌∙◌, ap, ⊎_elim}
use Rattle.std.proofs.lemmas.Result.{IfErr-weaker, IfOk-weaker}
use Rattle.tendril_stream.proofs.Own.{process_clash, end_clash}
use Rattle.tendril_stream.proofs.Handed.{handed_read}
use Rattle.tendril_stream.proofs.Refused.{stands_read, stream_stops}
use Rattle.tendril_stream.specs.Compositions.{IsSentOfOne}
use Rattle.tendril_stream.proofs.Stands.{ends_at}
use Rattle.tendril_stream.specs.Decodings.{utf8}
use Rattle.tendril_stream.specs.Reads.{given}
use Rattle.tendril_stream.specs.Utf8Laws.{is_utf8}
use Rattle.std.specs.Prelude.{chars}
use Rattle.rope_text.proofs.Decoded.{new_has, new_pieces_fit}
use Rattle.rope_text.specs.Ropes.{RopeText}
use Rattle.rope_text.specs.Sink.{HasCharacters, TakesSent, goes_on_by}
use Rattle.rope_text.proofs.decode.read_rope.Goals as goal

pub returns-clause-ok : goal.returns-clause-ok
returns-clause-ok g c = IfOk-weaker c.read_decoded.result _ _ (λ out h.
    let d = c.new-decoder.result in
    let all = h.3 in
    let stands = stands_read utf8 TakesSent (λ d. d.inner_sink) (λ d. d.kept) (λ d. d.failed) is_utf8 HasCharacters
    goes_on_by c.new.result d all.last h.0 c.new-decoder.ensures.sink c.new-decoder.ensures.kept
    c.new-decoder.ensures.failed (new_has c.new.result c.new.ensures.bytes) all.receives in
    let e = ends_at utf8 is_utf8 _ HasCharacters goes_on_by (λ a o. o ≡ a) all.last.inner_sink all.last.kept
    (given h.0) out stands.0 all.finished.1 in
    let read = handed_read utf8 is_utf8 TakesSent (λ d. d.inner_sink) (λ d. d.kept) (λ d. d.failed) (λ a o. o ≡ a) h.0 d
    all.last c.new.result out c.new-decoder.ensures.sink c.new-decoder.ensures.kept all.receives all.finished.1 in
    let sends = read.2 in (
      h.0,
      h.1,
      h.2,
      ap (λ (r : RopeText). chars r.bytes) e.2 ∙ e.1.1,
      all.ends,
      all.within,
      (
        read.0,
        read.1,
        new_pieces_fit (IsSentOfOne utf8 read.0) sends.2.sent c.new.result sends.0 out c.new.ensures.pieces
            sends.2.each sends.2.calls sends.1,
      ),
    )) c.read_decoded.ensures.ok

pub returns-clause-stopped : goal.returns-clause-stopped
returns-clause-stopped g c = IfErr-weaker c.read_decoded.result _ _ (λ s h. (
  h.0,
  h.1,
  λ own.
      let d = c.new-decoder.result in
      ⊎_elim
      (λ k.
      let stands = stands_read utf8 TakesSent (λ d. d.inner_sink) (λ d. d.kept) (λ d. d.failed) is_utf8 HasCharacters
      goes_on_by c.new.result d k.sink h.0 c.new-decoder.ensures.sink c.new-decoder.ensures.kept
      c.new-decoder.ensures.failed (new_has c.new.result c.new.ensures.bytes) k.receives in
      (k.stops, (k.sink, k.back, stands.1, stands.0)))
      (λ v. ⊎_elim
      (λ k. absurd (process_clash _ _ _ _ _ _ k.piece s.refusal k.refused.1 own))
      (λ k. absurd (end_clash _ _ _ _ _ _ s.refusal k.refused own))
      v)
      h.2,
  let d = c.new-decoder.result in
      stream_stops utf8 _ _ (λ d. d.inner_sink) (λ d. d.kept) (λ d. d.failed) is_utf8 _ HasCharacters goes_on_by
      c.new.result d c.args.max_reads h.0 s.refusal s.sink
      c.new-decoder.ensures.sink c.new-decoder.ensures.kept c.new-decoder.ensures.failed
      (new_has c.new.result c.new.ensures.bytes) h.2,
)) c.read_decoded.ensures.stopped
