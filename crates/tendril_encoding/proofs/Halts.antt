-- Where reading through a new decoder stops.
use Rattle.std.proofs.Common.{◌≡◌, ℕ, Bool, true, false, List, [], ◌⊎◌, inl, inr, Option}
use Rattle.tendril_errors.specs.declared.refusal.Refusal.{Refusal}
use Rattle.tendril_errors.specs.declared.refusal.Refusal.TheVariants.{Failed}
use Rattle.tendril_lossy.specs.Lossy.{Told}
use Rattle.tendril_stream.proofs.Refused.{stands_read, stops_at_end, stops_at_piece}
use Rattle.tendril_stream.specs.Compositions.{FollowsCalls}
use Rattle.tendril_stream.specs.Decoders.{Decodes, DecodingStops, EndStops}
use Rattle.tendril_stream.specs.Decodings.{Decoding, IsDecoding}
use Rattle.tendril_stream.specs.Readings.{Halts}
use Rattle.tendril_stream.specs.Reads.{OneRead, given}
use Rattle.tendril_stream.specs.Sinks.{Sent}
use Rattle.tendril_encoding.specs.Stopping.{ReadingStops}

module _ {K S D : Type 0} (decoding : Decoding K) (takes : S → Sent → S → Type 0)
    (refuses : S → Sent → Refusal → S → Type 0) (inner : D → S) (held : D → K) (failed : D → Bool) where
  pub reading_stops : IsDecoding decoding → (ends : S → Refusal → Type 0) (after : S → List Told → Type 0)
      → FollowsCalls takes after
      → (sink : S) (d : D) (max_reads : ℕ) (these : List OneRead) (r : Refusal) (handed : Option D)
      → inner d ≡ sink → held d ≡ decoding.start → failed d ≡ false → after sink []
      → Halts (λ d e n. (failed d ≡ false) × (failed n ≡ false)
      × Decodes decoding takes (inner d) (held d) e (inner n) (held n))
      (λ d e r n. (failed n ≡ true) × (((failed d ≡ true) × (r ≡ Failed) × (inner n ≡ inner d))
      ⊎ ((failed d ≡ false) × DecodingStops decoding takes refuses (inner d) (held d) e r (inner n))))
      (λ d r. ((failed d ≡ true) × (r ≡ Failed))
      ⊎ ((failed d ≡ false) × EndStops decoding takes refuses ends (inner d) (held d) r))
      max_reads d these r handed
      → ReadingStops decoding takes refuses ends after inner held failed max_reads these r handed
  reading_stops is ends after goes sink d max_reads these r handed is_sink none alive new (inl h) =
      let stands = stands_read decoding takes inner held failed is after goes sink d h.sink these is_sink none alive
      new h.receives in
      inl (h.stops, (h.sink, h.back, stands.1, stands.0))
  reading_stops is ends after goes sink d max_reads these r handed is_sink none alive new (inr (inl h)) =
      let stands = stands_read decoding takes inner held failed is after goes sink d h.sink h.before is_sink none
      alive new h.receives in
      let at = stands.0 in
      let running = stands.1 in
      inr (inl (record {
        before = h.before;
        piece = h.piece;
        sink = inner h.sink;
        decoder = h.last;
        is = h.is;
        tells = at.tells;
        stops = stops_at_piece decoding takes refuses inner held failed h.sink h.piece r h.last (given h.before)
            running at.keeps h.refused;
        has_failed = h.refused.0;
        back = h.back;
        on = h.on;
        within = h.within;
      }))
  reading_stops is ends after goes sink d max_reads these r handed is_sink none alive new (inr (inr h)) =
      let stands = stands_read decoding takes inner held failed is after goes sink d h.sink these is_sink none alive
      new h.receives in
      let at = stands.0 in
      let running = stands.1 in
      inr (inr (record {
        sink = inner h.sink;
        tells = at.tells;
        stops = stops_at_end decoding takes refuses inner held failed ends h.sink r (given these) running at.keeps
            h.refused;
        gone = h.gone;
        at_end = h.at_end;
        within = h.within;
      }))
