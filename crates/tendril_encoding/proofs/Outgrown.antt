-- A sink that joins what it is sent returns an error only for a text of more than 8 bytes.
use Rattle.std.proofs.Common.{◌≡◌, ℕ, ◌<◌, ◌≤◌, ◌⊎◌, List, ◌++◌, length, refl, sym, ap, subst, ◌∙◌, arith}
use Rattle.std.proofs.Common.{append_assoc, Bool, drop, false, inl, inr, length-append, take, take-append-drop, true}
use Rattle.std.proofs.Common.{true≢false}
use Rattle.std.proofs.lemmas.Bool.{cases_lt}
use Rattle.std.proofs.lemmas.Str.{encodes-append}
use Rattle.std.specs.Prelude.{◌||◌, encode_utf8_all, slice_range}
use Rattle.tendril_errors.specs.declared.refusal.Refusal.{Refusal}
use Rattle.tendril_errors.specs.declared.refusal.Refusal.TheVariants.{Failed, SinkRefused}
use Rattle.tendril_errors.specs.Outcomes.{LengthMust, MemoryMay, Refused}
use Rattle.tendril_encoding.proofs.Joins.{after, goes_on, takes}
use Rattle.tendril_encoding.specs.HasMarks.{is_error, whole_on}
use Rattle.tendril_encoding.specs.Outgrown.{AppendRefused, IsOutgrown}
use Rattle.tendril_encoding.specs.StateLaws.{IsStreamStart, is_decoding_from}
use Rattle.tendril_encoding.specs.States.{decoding_from}
use Rattle.tendril_encoding.specs.Wholes.{InputMay}
use Rattle.tendril_encoding.specs.declared.kept.State.{State}
use Rattle.tendril_encoding.specs.declared.whole.Whole.{Whole}
use Rattle.tendril_lossy.proofs.Told.{characters-append}
use Rattle.tendril_lossy.specs.Lossy.{Told, characters}
use Rattle.tendril_stream.proofs.Stands.{sent_on}
use Rattle.tendril_stream.specs.Compositions.{StandsAt}
use Rattle.tendril_stream.specs.Decoders.{EndStops, StopsInPiece}
use Rattle.tendril_stream.specs.Decodings.{Decoding, IsDecoding}
use Rattle.tendril_stream.specs.SentBytes.{sent_bytes}
use Rattle.tendril_stream.specs.Sinks.{Sent, Piece, Fault, IsSent, Stops, told, told_of}
use Rattle.tendril_text.specs.Decoding.{LongPieceMay}
use Rattle.tendril_text.specs.TextLists.{no_text}
use Rattle.tendril_text.specs.Texts.{Text}

abbrev pub refuses : Whole → Sent → Refusal → Whole → Type 0
refuses a e r b = AppendRefused a.text.bytes e r × (b ≡ a)

outgrown_more : (t more : List Told) → IsOutgrown t → IsOutgrown (t ++ more)
outgrown_more t more h = omega (
  arith,
  h,
  ap length (ap encode_utf8_all (characters-append t more) ∙ encodes-append (characters t) (characters more)),
  length-append (encode_utf8_all (characters t)) (encode_utf8_all (characters more)),
)

too_long : (n : ℕ) (r : Refusal) → Refused (LengthMust n) (MemoryMay n) r → 8 < n
too_long n r (inl (inl h)) = elim (cases_lt 8 n) [
  | inl long ↦ long
  | inr short ↦ absurd (h.0 (omega (arith, short)))
]
too_long n r (inl (inr h)) = absurd h.1
too_long n r (inr h) = h.1.1

refused : (t : List Told) (a : Whole) (e : Sent) (r : Refusal) → IsSent e → after a t → AppendRefused a.text.bytes e r
    → IsOutgrown (t ++ told_of e)
refused t a (Piece p) r is h why =
    let text = whole_on a.text.bytes (a.text.bytes ++ p.bytes) a.malformed (a.malformed || is_error (Piece p)) (Piece p)
    t is h.0 h.1 refl refl in
    subst (λ l. 8 < length l) text.0 (too_long (length (a.text.bytes ++ p.bytes)) r why)
refused t a (Fault words) r is h why = absurd why

-- the sink was sent the list t, and stopped while `due` was sent to it: it has outgrown, or the decoder stopped
pub stops_outgrown : (fit : Sent → Type 0) (sends : (e : Sent) → fit e → IsSent e) (may : List Told → Refusal → Type 0)
    (t due : List Told) (a n : Whole) (r : Refusal) → after a t → Stops takes refuses fit may a due r n
    → ((rest : List Told) × may rest r) ⊎ ((r ≡ SinkRefused) × IsOutgrown (t ++ due))
stops_outgrown fit sends may t due a n r h s = elim s.stop [
  | inl v ↦ inl (s.rest, v.0)
  | inr v ↦
      let so_far = t ++ told s.sent in
      let mid = sent_on takes after goes_on fit sends t a s.sent s.mid s.each h s.calls in
      let whole : (so_far ++ told_of v.call) ++ v.rest ≡ t ++ due =
      append_assoc so_far (told_of v.call) v.rest ∙ ap (λ l. so_far ++ l) v.front
      ∙ append_assoc t (told s.sent) s.rest ∙ ap (λ l. t ++ l) s.front in
      inr (
        v.refused.0,
        subst IsOutgrown whole (outgrown_more (so_far ++ told_of v.call) v.rest
            (refused so_far s.mid v.call v.refused.1.0 (sends v.call v.is_fit) mid v.refused.1.1.0)),
      )
]

module _ {K : Type 0} (d : Decoding K) (is : IsDecoding d) (a : Whole) (k : K) (b : List ℕ) (s : StandsAt d after a k b)
  where
    more_outgrown : (c rest : List ℕ) → IsOutgrown (d.out d.start c) → IsOutgrown (d.decoded (c ++ rest))
    more_outgrown c rest h =
        let all = c ++ rest in
        subst IsOutgrown (sym (is.whole all)) (outgrown_more (d.out d.start all) (d.ends (d.after d.start all))
        (subst IsOutgrown (sym (is.out_both d.start c rest))
        (outgrown_more (d.out d.start c) (d.out (d.after d.start c) rest) h)))

    -- an error for a piece after the bytes b
    piece_outgrown : (piece : Text) (n : Whole) (r : Refusal) (rest : List ℕ)
        → StopsInPiece d takes refuses a k piece r n → ((left : List Told) × d.may piece left r)
        ⊎ ((r ≡ SinkRefused) × IsOutgrown (d.decoded ((b ++ piece.bytes) ++ rest)))
    piece_outgrown piece n r rest stops =
        elim (stops_outgrown (d.fit k piece) (is.sends k piece) (d.may piece) (d.out d.start b) (d.out k piece.bytes)
        a n r s.tells stops) [
          | inl may ↦ inl may
          | inr o ↦
              let both : d.out d.start b ++ d.out k piece.bytes ≡ d.out d.start (b ++ piece.bytes) =
              ap (λ x. d.out d.start b ++ d.out x piece.bytes) s.keeps ∙ sym (is.out_both d.start b piece.bytes) in
              inr (o.0, more_outgrown (b ++ piece.bytes) rest (subst IsOutgrown both o.1))
        ]

    -- an error at the end of the stream
    end_outgrown : (r : Refusal) → EndStops d takes refuses (λ x e. ⊥) a k r
        → ((left : List Told) × d.may no_text left r) ⊎ ((r ≡ SinkRefused) × IsOutgrown (d.decoded b))
    end_outgrown r (inl h) =
        elim (stops_outgrown (d.fit k no_text) (is.sends k no_text) (d.may no_text) (d.out d.start b) (d.ends k) a h.0 r
        s.tells h.1) [
          | inl may ↦ inl may
          | inr o ↦
              let whole : d.out d.start b ++ d.ends k ≡ d.decoded b =
              ap (λ x. d.out d.start b ++ d.ends x) s.keeps ∙ sym (is.whole b) in
              inr (o.0, subst IsOutgrown whole o.1)
        ]
    end_outgrown r (inr h) = absurd h.3.1

-- the errors of decoding an input, which stands at an offset or at the end
module _ (start : State) (is : IsStreamStart start) (a : Whole) (k : State) (input : List ℕ) (r : Refusal) where
  pub stops_at_piece : (at end : ℕ) (piece : Text) (n : Whole) (failed : Bool)
      → StandsAt (decoding_from start) after a k (take at input) → take at input ++ piece.bytes ≡ take end input
      → piece.bytes ≡ slice_range input at end → failed ≡ false
      → ((failed ≡ true) × (r ≡ Failed) × (n ≡ a))
      ⊎ ((failed ≡ false) × StopsInPiece (decoding_from start) takes refuses a k piece r n)
      → InputMay start input r
  stops_at_piece at end piece n failed s cut slice alive (inl gone) = absurd (true≢false (sym gone.0 ∙ alive))
  stops_at_piece at end piece n failed s cut slice alive (inr live) =
      let whole : (take at input ++ piece.bytes) ++ drop end input ≡ input =
      ap (λ l. l ++ drop end input) cut ∙ take-append-drop end input in
      elim (piece_outgrown (decoding_from start) (is_decoding_from start is) a k (take at input) s piece n r
      (drop end input) live.1) [
        | inl may ↦ elim may.1 [
          | inl memory ↦ inl memory
          | inr count ↦ inr (inr (at, end, subst (λ l. LongPieceMay l r) slice count))
        ]
        | inr o ↦ inr (inl (o.0, subst (λ l. IsOutgrown ((decoding_from start).decoded l)) whole o.1))
      ]

  pub stops_at_end : StandsAt (decoding_from start) after a k input
      → EndStops (decoding_from start) takes refuses (λ x e. ⊥) a k r → InputMay start input r
  stops_at_end s stops =
      elim (end_outgrown (decoding_from start) (is_decoding_from start is) a k input s r stops) [
        | inl may ↦ elim may.1 [ inl memory ↦ inl memory | inr count ↦ inr (inr (0, 0, count)) ]
        | inr o ↦ inr (inl o)
      ]
