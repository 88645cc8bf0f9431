-- Errors of a decoder that hadn't failed.
use Rattle.std.proofs.Common.{◌≡◌, ℕ, Bool, true, false, List, [], ◌⊎◌, ⊎_elim, inl, inr, Option, sym, subst, ◌∙◌}
use Rattle.std.proofs.Common.{true≢false}
use Rattle.tendril_text.specs.Texts.{Text}
use Rattle.tendril_errors.specs.declared.refusal.Refusal.{Refusal}
use Rattle.tendril_errors.specs.declared.refusal.Refusal.TheVariants.{Failed}
use Rattle.tendril_lossy.specs.Lossy.{Told}
use Rattle.tendril_stream.proofs.Fed.{received}
use Rattle.tendril_stream.proofs.Own.{unfailed}
use Rattle.tendril_stream.proofs.Stands.{stands_from_nothing}
use Rattle.tendril_stream.specs.Compositions.{FollowsCalls, StandsAt, StreamStops}
use Rattle.tendril_stream.specs.Decoders.{Decodes, DecodingStops, EndStops, StopsInPiece}
use Rattle.tendril_stream.specs.Decodings.{Decoding, IsDecoding}
use Rattle.tendril_stream.specs.Readings.{Halts, IsOfReading, Receives, StopsBetween}
use Rattle.tendril_stream.specs.Reads.{OneRead, given}
use Rattle.tendril_stream.specs.Sinks.{Sent, Piece}

between_is_of_reading : (max_reads : ℕ) (these : List OneRead) (r : Refusal) → StopsBetween max_reads these r
    → IsOfReading r
between_is_of_reading max_reads these r (inl k) = inl k.0
between_is_of_reading max_reads these r (inr (inl k)) = inr (inl k.0)
between_is_of_reading max_reads these r (inr (inr k)) = inr (inr k.0)

module _ {K S D : Type 0} (decoding : Decoding K) (takes : S → Sent → S → Type 0) (inner : D → S) (held : D → K)
    (failed : D → Bool) where
  abbrev pub DecoderTakes : D → Sent → D → Type 0
  DecoderTakes d e n = (failed d ≡ false) × (failed n ≡ false)
      × Decodes decoding takes (inner d) (held d) e (inner n) (held n)

  -- a new decoder that accepted what was read
  pub stands_read : IsDecoding decoding → (after : S → List Told → Type 0) → FollowsCalls takes after
      → (sink : S) (d last : D) (these : List OneRead) → inner d ≡ sink → held d ≡ decoding.start → failed d ≡ false
      → after sink []
      → Receives DecoderTakes d these last → StandsAt decoding after (inner last) (held last) (given these)
      × (failed last ≡ false)
  stands_read is after goes sink d last these is_sink none alive new h =
      let r = received DecoderTakes these d last h in (
        subst (StandsAt decoding after (inner last) (held last)) r.2
            (stands_from_nothing decoding is takes after goes inner held failed r.0 d last sink is_sink none new r.1),
        unfailed failed (λ s p t. Decodes decoding takes (inner s) (held s) (Piece p) (inner t) (held t)) r.0 d last
            alive r.1,
      )

module _ {K S D : Type 0} (decoding : Decoding K) (takes : S → Sent → S → Type 0)
    (refuses : S → Sent → Refusal → S → Type 0) (inner : D → S) (held : D → K) (failed : D → Bool) where
  -- an error at a piece that follows the bytes b
  pub stops_at_piece : (d : D) (x : Text) (r : Refusal) (n : D) (b : List ℕ) → failed d ≡ false
      → held d ≡ decoding.after decoding.start b
      → (failed n ≡ true) × (((failed d ≡ true) × (r ≡ Failed) × (inner n ≡ inner d))
      ⊎ ((failed d ≡ false) × DecodingStops decoding takes refuses (inner d) (held d) (Piece x) r (inner n)))
      → StopsInPiece decoding takes refuses (inner d) (decoding.after decoding.start b) x r (inner n)
  stops_at_piece d x r n b e keeps h = ⊎_elim
      (λ k. absurd (true≢false (sym k.0 ∙ e)))
      (λ k. subst (λ l. StopsInPiece decoding takes refuses (inner d) l x r (inner n)) keeps k.1) h.1

  -- an error at the end
  pub stops_at_end : (ends : S → Refusal → Type 0) (d : D) (r : Refusal) (b : List ℕ) → failed d ≡ false
      → held d ≡ decoding.after decoding.start b
      → ((failed d ≡ true) × (r ≡ Failed)) ⊎ ((failed d ≡ false)
      × EndStops decoding takes refuses ends (inner d) (held d) r)
      → EndStops decoding takes refuses ends (inner d) (decoding.after decoding.start b) r
  stops_at_end ends d r b e keeps h = ⊎_elim
      (λ k. absurd (true≢false (sym k.0 ∙ e)))
      (λ k. subst (λ l. EndStops decoding takes refuses ends (inner d) l r) keeps k.1) h

  -- an error while a new decoder was read into
  pub stream_stops : IsDecoding decoding → (ends : S → Refusal → Type 0) (after : S → List Told → Type 0)
      → FollowsCalls takes after
      → (sink : S) (d : D) (max_reads : ℕ) (these : List OneRead) (r : Refusal) (handed : Option D)
      → inner d ≡ sink → held d ≡ decoding.start → failed d ≡ false → after sink []
      → Halts (λ d e n. (failed d ≡ false) × (failed n ≡ false)
      × Decodes decoding takes (inner d) (held d) e (inner n) (held n))
      (λ d e r n. (failed n ≡ true) × (((failed d ≡ true) × (r ≡ Failed) × (inner n ≡ inner d))
      ⊎ ((failed d ≡ false) × DecodingStops decoding takes refuses (inner d) (held d) e r (inner n))))
      (λ d r. ((failed d ≡ true) × (r ≡ Failed))
      ⊎ ((failed d ≡ false) × EndStops decoding takes refuses ends (inner d) (held d) r))
      max_reads d these r handed
      → IsOfReading r ⊎ StreamStops decoding takes refuses ends after inner failed max_reads these r handed
  stream_stops is ends after goes sink d max_reads these r handed is_sink none alive new (inl h) =
      inl (between_is_of_reading max_reads these r h.stops)
  stream_stops is ends after goes sink d max_reads these r handed is_sink none alive new (inr (inl h)) =
      let stands = stands_read decoding takes inner held failed is after goes sink d h.sink h.before is_sink none
      alive new h.receives in
      let at = stands.0 in
      let running = stands.1 in
      inr (inl (record {
        before = h.before;
        piece = h.piece;
        sink = inner h.sink;
        decoder = h.last;
        is = h.is;
        tells = at.tells;
        stops = stops_at_piece h.sink h.piece r h.last (given h.before) running at.keeps h.refused;
        has_failed = h.refused.0;
        back = h.back;
        on = h.on;
        within = h.within;
      }))
  stream_stops is ends after goes sink d max_reads these r handed is_sink none alive new (inr (inr h)) =
      let stands = stands_read decoding takes inner held failed is after goes sink d h.sink these is_sink none alive
      new h.receives in
      let at = stands.0 in
      let running = stands.1 in
      inr (inr (record {
        sink = inner h.sink;
        tells = at.tells;
        stops = stops_at_end ends h.sink r (given these) running at.keeps h.refused;
        gone = h.gone;
        at_end = h.at_end;
        within = h.within;
      }))
