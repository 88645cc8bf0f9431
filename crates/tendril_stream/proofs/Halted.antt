-- What a sink was sent when reading into a decoder stopped: a prefix of the decoding of what was read.
use Rattle.std.proofs.Common.{◌≡◌, ◌⊎◌, ℕ, Bool, true, false, List, [], ◌++◌, Option, sym, ap, subst, ◌∙◌, append_assoc}
use Rattle.std.proofs.Common.{⊎_elim, inl, inr}
use Rattle.std.specs.Prelude.{IfSome}
use Rattle.tendril_errors.specs.declared.refusal.Refusal.{Refusal}
use Rattle.tendril_errors.specs.declared.refusal.Refusal.TheVariants.{Failed}
use Rattle.tendril_lossy.specs.Lossy.{Told}
use Rattle.tendril_stream.proofs.Fed.{given-push}
use Rattle.tendril_stream.proofs.Refused.{DecoderTakes, stands_read, stops_at_piece}
use Rattle.tendril_stream.proofs.Stands.{sent_on}
use Rattle.tendril_stream.specs.Compositions.{FollowsCalls}
use Rattle.tendril_stream.specs.Decoders.{DecodingStops, StopsInPiece}
use Rattle.tendril_stream.specs.Decodings.{Decoding, IsDecoding}
use Rattle.tendril_stream.specs.Readings.{Halts}
use Rattle.tendril_stream.specs.Reads.{OneRead, Gave, given}
use Rattle.tendril_stream.specs.Sinks.{Sent, IsSent, IsStop, told, told_of}
use Rattle.tendril_text.specs.Texts.{Text}

-- `after a told`: the sink a was sent the list `told`. `front a told`: a was sent a prefix of it. The second follows
-- from the first, holds of longer lists too, and holds after a call for which the sink returned an error.
module _ {K S D : Type 0} (decoding : Decoding K) (is : IsDecoding decoding) (takes : S → Sent → S → Type 0)
    (refuses : S → Sent → Refusal → S → Type 0)
    (after front : S → List Told → Type 0) (goes : FollowsCalls takes after)
    (begins : (told more : List Told) (a : S) → after a told → front a (told ++ more))
    (grows : (told more : List Told) (a : S) → front a told → front a (told ++ more))
    (refused : (told : List Told) (a : S) (e : Sent) (r : Refusal) (b : S) → IsSent e → after a told → refuses a e r b
    → front b (told ++ told_of e))
    (inner : D → S) (held : D → K) (failed : D → Bool) where
  at_stop : (k : K) (piece : Text) (mid n : S) (t rest : List Told) (r : Refusal) → after mid t
      → IsStop refuses (decoding.fit k piece) (decoding.may piece) mid rest r n → front n (t ++ rest)
  at_stop k piece mid n t rest r h stop = ⊎_elim
      (λ v. begins t rest n (subst (λ s. after s t) (sym v.1) h))
      (λ v. subst (front n) (append_assoc t (told_of v.call) v.rest ∙ ap (λ l. t ++ l) v.front)
      (grows (t ++ told_of v.call) v.rest n
      (refused t mid v.call v.refused.1.0 n (is.sends k piece v.call v.is_fit) h v.refused.1.1)))
      stop

  at_stops : (piece : Text) (a n : S) (b : List ℕ) (r : Refusal) → after a (decoding.out decoding.start b)
      → StopsInPiece decoding takes refuses a (decoding.after decoding.start b) piece r n
      → front n (decoding.decoded (b ++ piece.bytes))
  at_stops piece a n b r h stops =
      let all = b ++ piece.bytes in
      let before = decoding.out decoding.start b in
      let so_far = before ++ told stops.sent in
      let whole : so_far ++ stops.rest ≡ decoding.out decoding.start all =
      append_assoc before (told stops.sent) stops.rest ∙ ap (λ l. before ++ l) stops.front
      ∙ sym (is.out_both decoding.start b piece.bytes) in
      subst (front n)
      (ap (λ l. l ++ decoding.ends (decoding.after decoding.start all)) whole ∙ sym (is.whole all))
      (grows (so_far ++ stops.rest) (decoding.ends (decoding.after decoding.start all)) n
      (at_stop (decoding.after decoding.start b) piece stops.mid n so_far stops.rest r
      (sent_on takes after goes (decoding.fit (decoding.after decoding.start b) piece)
      (is.sends (decoding.after decoding.start b) piece) before a stops.sent stops.mid stops.each h
      stops.calls) stops.stop))

  -- a new decoder over it was read into
  pub halted : (ends : D → Refusal → Type 0) (sink : S) (d : D) (max_reads : ℕ) (these : List OneRead) (r : Refusal)
      (handed : Option D)
      → inner d ≡ sink → held d ≡ decoding.start → failed d ≡ false → after sink []
      → Halts (DecoderTakes decoding takes inner held failed)
      (λ d e r n. (failed n ≡ true) × (((failed d ≡ true) × (r ≡ Failed) × (inner n ≡ inner d))
      ⊎ ((failed d ≡ false) × DecodingStops decoding takes refuses (inner d) (held d) e r (inner n))))
      ends max_reads d these r handed
      → IfSome handed (λ n. front (inner n) (decoding.decoded (given these)))
  halted ends sink d max_reads these r handed is_sink none alive new (inl h) =
      let stands = stands_read decoding takes inner held failed is after goes sink d h.sink these is_sink none alive
      new h.receives in
      subst (λ o. IfSome o (λ n. front (inner n) (decoding.decoded (given these)))) (sym h.back)
      (subst (front (inner h.sink)) (sym (is.whole (given these)))
      (begins (decoding.out decoding.start (given these))
      (decoding.ends (decoding.after decoding.start (given these))) (inner h.sink) stands.0.tells))
  halted ends sink d max_reads these r handed is_sink none alive new (inr (inl h)) =
      let stands = stands_read decoding takes inner held failed is after goes sink d h.sink h.before is_sink none
      alive new h.receives in
      let stops = stops_at_piece decoding takes refuses inner held failed h.sink h.piece r h.last
      (given h.before) stands.1 stands.0.keeps h.refused in
      subst (λ o. IfSome o (λ n. front (inner n) (decoding.decoded (given these)))) (sym h.back)
      (subst (λ l. front (inner h.last) (decoding.decoded l))
      (sym (ap given h.is ∙ given-push h.before (Gave h.piece.bytes)))
      (at_stops h.piece (inner h.sink) (inner h.last) (given h.before) r stands.0.tells stops))
  halted ends sink d max_reads these r handed is_sink none alive new (inr (inr h)) =
      subst (λ o. IfSome o (λ n. front (inner n) (decoding.decoded (given these)))) (sym h.gone) tt
