use Rattle.std.proofs.Common.{◌≡◌, ◌∷◌, [], ◌++◌, ◌∙◌, ap}
use Rattle.std.proofs.lemmas.Result.{IfErr-weaker, IfOk-weaker}
use Rattle.tendril_encoding.proofs.Halts.{reading_stops}
use Rattle.tendril_encoding.specs.StateLaws.{is_decoding_from}
use Rattle.tendril_encoding.specs.States.{decoding_from}
use Rattle.tendril_stream.proofs.Refused.{stands_read}
use Rattle.tendril_stream.proofs.Stands.{ends_at}
use Rattle.tendril_stream.specs.Events.{sent}
use Rattle.tendril_stream.specs.Reads.{given}
use Rattle.tendril_stream.specs.Sinks.{told}
use Rattle.tendril_stream.specs.Stored.{stored_on}
use Rattle.tendril_encoding.proofs.reading.read_all.Goals as goal

pub returns-clause-ok : goal.returns-clause-ok
returns-clause-ok g c = IfOk-weaker c.read_decoded.result _ _ (λ out h.
    let decoding = decoding_from c.args.kept in
    let is = is_decoding_from c.args.kept c.requires in
    let d = c.over-decoder.result in
    let all = h.3 in
    let stands = stands_read decoding (λ a e b. sent b.events.items ≡ sent a.events.items ++ e ∷ []) (λ d. d.inner_sink)
    (λ d. d.kept) (λ d. d.failed) is (λ a t. told (sent a.events.items) ≡ t)
    (λ t a e b is_sent h c. stored_on (sent a.events.items) (sent b.events.items) e t c h)
    c.new.result d all.last h.0 c.over-decoder.ensures.sink c.over-decoder.ensures.kept c.over-decoder.ensures.failed
    (ap (λ l. told (sent l)) c.new.ensures) all.receives in
    let e = ends_at decoding is _ (λ a t. told (sent a.events.items) ≡ t)
    (λ t a e b is_sent h c. stored_on (sent a.events.items) (sent b.events.items) e t c h)
    (λ a o. o.items ≡ a.events.items) all.last.inner_sink all.last.kept (given h.0) out stands.0 all.finished.1 in
    (h.0, h.1, h.2, ap (λ l. told (sent l)) e.2 ∙ e.1, all.ends, all.within)) c.read_decoded.ensures.ok

pub returns-clause-stopped : goal.returns-clause-stopped
returns-clause-stopped g c = IfErr-weaker c.read_decoded.result _ _ (λ s h. (
  h.0,
  h.1,
  reading_stops (decoding_from c.args.kept) _ _ (λ d. d.inner_sink) (λ d. d.kept) (λ d. d.failed)
      (is_decoding_from c.args.kept c.requires) _ (λ a t. told (sent a.events.items) ≡ t)
      (λ t a e b is_sent h c. stored_on (sent a.events.items) (sent b.events.items) e t c h) c.new.result
      c.over-decoder.result c.args.max_reads h.0 s.refusal s.sink c.over-decoder.ensures.sink
      c.over-decoder.ensures.kept c.over-decoder.ensures.failed (ap (λ l. told (sent l)) c.new.ensures) h.2,
)) c.read_decoded.ensures.stopped
