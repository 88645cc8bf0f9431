-- One read of a decoder over a sink that joins texts.
use Rattle.std.proofs.Common.{◌≡◌, ℕ, ◌<◌, ◌≤◌, ◌⊎◌, Bool, true, false, List, [], ◌∷◌, ◌++◌, length, Option, refl, sym}
use Rattle.std.proofs.Common.{subst, ◌∙◌, arith, append-nil, length-append, inl, inr, ⊎_elim, true≢false}
use Rattle.std.proofs.lemmas.List.Elements.{All-push}
use Rattle.std.specs.Prelude.{All}
use Rattle.tendril_text.specs.Texts.{Text}
use Rattle.tendril_errors.specs.declared.refusal.Refusal.{Refusal}
use Rattle.tendril_errors.specs.declared.refusal.Refusal.TheVariants.{Failed, Io, Memory}
use Rattle.tendril_lossy.specs.Lossy.{Told}
use Rattle.tendril_stream.proofs.Fed.{given-push, MakesReads-none}
use Rattle.tendril_stream.specs.Decoders.{Decodes, DecodingStops as Stopping, EndStops}
use Rattle.tendril_stream.specs.Decodings.{Decoding, IsDecoding}
use Rattle.tendril_stream.specs.Readings.{Hears, MakesReads, ReadStops}
use Rattle.tendril_stream.specs.Reads.{OneRead, Gave, WasInterrupted, HasFailed, CameToEnd, MayReadOn, given, given_by}
use Rattle.tendril_stream.specs.Sinks.{Sent, IsStop}
use Rattle.tendril_transcode.specs.Transcodings.{EndingStops, TranscodeStops, WritesFrontOfText, WritesSoFar}
use Rattle.tendril_transcode.specs.Transcodings.{WritesText, chars_so_far}
use Rattle.tendril_transcode.proofs.JoiningSinks.{Joins, Stands, stands_on}
use Rattle.tendril_transcode.proofs.WrittenTexts.{front_of_all, front_of_end}

-- a decoder, and what one read does to it
module _ {D S K : Type 0} (decoding : Decoding K) (start : K) (inner : D → S) (held : D → K) (failed : D → Bool)
    (has : S → List ℕ) (refuses : S → Sent → Refusal → S → Type 0) (finish_refused : S → Refusal → Type 0) where
  abbrev pub DecoderTakes : D → Sent → D → Type 0
  DecoderTakes d e n = (failed d ≡ false) × (failed n ≡ false) × Decodes decoding (Joins has) (inner d) (held d) e
      (inner n) (held n)

  abbrev pub DecoderRefuses : D → Sent → Refusal → D → Type 0
  DecoderRefuses d e r n = (failed n ≡ true)
      × (((failed d ≡ true) × (r ≡ Failed) × (inner n ≡ inner d))
      ⊎ ((failed d ≡ false) × Stopping decoding (Joins has) refuses (inner d) (held d) e r (inner n)))

  abbrev pub DecoderEnds : D → Refusal → Type 0
  DecoderEnds d r = ((failed d ≡ true) × (r ≡ Failed))
      ⊎ ((failed d ≡ false) × EndStops decoding (Joins has) refuses finish_refused (inner d) (held d) r)

  quiet : (written b : List ℕ) (d n : D) → n ≡ d → failed d ≡ false
      → Stands has decoding start written (inner d) (held d) b
      → Stands has decoding start written (inner n) (held n) (b ++ []) × (failed n ≡ false)
  quiet written b d n same whole s =
      subst (λ e. Stands has decoding start written (inner e) (held e) (b ++ []) × (failed e ≡ false))
      (sym same) (subst (Stands has decoding start written (inner d) (held d)) (sym (append-nil b)) s, whole)

  -- after the read, `Stands` still holds
  pub heard : IsDecoding decoding → (written b : List ℕ) (d n : D) (one : OneRead) → Hears DecoderTakes d one n
      → failed d ≡ false → Stands has decoding start written (inner d) (held d) b
      → Stands has decoding start written (inner n) (held n) (b ++ given_by one) × (failed n ≡ false)
  heard is written b d n (Gave bytes) h whole s = (
    subst (λ l. Stands has decoding start written (inner n) (held n) (b ++ l)) h.1
        (stands_on has decoding start is written (inner d) (inner n) (held d) (held n) b h.0 s h.3.2),
    h.3.1,
  )
  heard is written b d n WasInterrupted h whole s = quiet written b d n h whole s
  heard is written b d n HasFailed h whole s = quiet written b d n h whole s
  heard is written b d n CameToEnd h whole s = quiet written b d n h whole s

  -- the decoder returns an error at the end
  pub end_refused : (d : D) (r : Refusal) (before after : Option (List ℕ)) (these : List OneRead) → DecoderEnds d r
      → failed d ≡ false → WritesSoFar decoding start these before after
      → EndingStops decoding start these before after r
  end_refused d r before after these (inl h) whole w = absurd (true≢false (sym h.0 ∙ whole))
  end_refused d r before after these (inr h) whole w =
      ⊎_elim
      (λ v. ⊎_elim (λ k. inr (v.1.rest, k.0, w))
      (λ k. inl (k.refused.0, front_of_end decoding start before after _ w)) v.1.stop)
      (λ v. inl (v.2, front_of_end decoding start before after _ w)) h.1

  -- the read returns an error
  module _ {R : Type 0} (history : R → List OneRead) (remaining : R → Option (List ℕ)) (reader reader' : R)
      (max_reads : ℕ) (before now : Option (List ℕ)) (these : List OneRead) (on : All MayReadOn these)
      (some : length these < max_reads) (w : WritesSoFar decoding start these before now) where
    abbrev Stopped : Refusal → Type 0
    Stopped r = (more : List OneRead) × MakesReads history remaining reader more reader'
        × TranscodeStops decoding start max_reads (these ++ more) (remaining reader') before now r

    -- since there is no memory
    stops_memory : reader' ≡ reader → Stopped Memory
    stops_memory same = (
      [],
      subst (MakesReads history remaining reader []) (sym same) (MakesReads-none history remaining reader),
      subst (λ l. TranscodeStops decoding start max_reads l (remaining reader') before now Memory)
          (sym (append-nil these)) (inl (w, inr (inr (refl, on, some)))),
    )

    one_more : (r : OneRead) → length (these ++ r ∷ []) ≤ max_reads
    one_more r = omega (arith, length-append these (r ∷ []), some)

    -- since it failed
    stops_io : MakesReads history remaining reader (HasFailed ∷ []) reader' → Stopped Io
    stops_io makes = (
      HasFailed ∷ [],
      makes,
      inl (
        subst (λ l. WritesText (chars_so_far decoding start l) before now)
            (sym (given-push these HasFailed ∙ append-nil (given these))) w,
        inr (inl (refl, record { before = these; on = on; is = refl }, one_more HasFailed)),
      ),
    )

    -- at the piece that it gave
    stops_piece : IsDecoding decoding → (piece : Text) (fit : Sent → Type 0) (mid new : S) (due : List Told)
        (r : Refusal) → 0 < length piece.bytes → MakesReads history remaining reader (Gave piece.bytes ∷ []) reader'
        → IsStop refuses fit (decoding.may piece) mid due r new → Stopped r
    stops_piece is piece fit mid new due r long makes (inl h) = (
      Gave piece.bytes ∷ [],
      makes,
      inr (inl record {
        read = these;
        piece = piece;
        rest = due;
        is = refl;
        may = h.0;
        writes = w;
        on = All-push MayReadOn these (Gave piece.bytes) on long;
        within = one_more (Gave piece.bytes);
      }),
    )
    stops_piece is piece fit mid new due r long makes (inr h) = (
      Gave piece.bytes ∷ [],
      makes,
      inr (inr (inl (
        h.refused.0,
        inl (
          subst (λ l. WritesFrontOfText (chars_so_far decoding start l) before now)
              (sym (given-push these (Gave piece.bytes)))
              (front_of_all decoding start is before now (given these) piece.bytes w),
          All-push MayReadOn these (Gave piece.bytes) on long,
        ),
        one_more (Gave piece.bytes),
      ))),
    )

    pub read_stops : IsDecoding decoding → (d n : D) (r : Refusal)
        → ReadStops history remaining reader reader' d n DecoderRefuses r → failed d ≡ false → Stopped r
    read_stops is d n r (inl h) whole = subst Stopped (sym h.0) (stops_memory h.1)
    read_stops is d n r (inr (inl h)) whole = subst Stopped (sym h.0) (stops_io h.1)
    read_stops is d n r (inr (inr h)) whole = ⊎_elim
        (λ k. absurd (true≢false (sym k.0 ∙ whole)))
        (λ k. stops_piece is h.0 (decoding.fit (held d) h.0) k.1.mid (inner n) k.1.rest r h.1.0 h.2 k.1.stop)
        h.3.1
