-- Pieces that are passed on as they are, and others.
use Rattle.std.proofs.Common.{◌≡◌, ◌<◌, ℕ, Bool, true, false, List, [], ◌∷◌, ◌++◌, length, map, refl, sym, ap, subst}
use Rattle.std.proofs.Common.{inl, inr, ◌∙◌, arith, append-nil, true≢false}
use Rattle.std.proofs.lemmas.List.{nil_from_length}
use Rattle.std.proofs.lemmas.Str.{IsUtf8-from_ascii, chars-nil}
use Rattle.std.specs.Prelude.{IsAscii, IsTrue, chars}
use Rattle.tendril_errors.specs.declared.refusal.Refusal.{Refusal}
use Rattle.tendril_decode.specs.Machines.{told_from, state_after}
use Rattle.tendril_decode.specs.declared.any_decoder.AnyDecoder.{AnyDecoder}
use Rattle.tendril_encoding.proofs.Ascii.{out_ascii}
use Rattle.tendril_encoding.specs.Known.{EndsKnown, FeedsKnown, FitKnown, StopsInEndKnown, StopsInKnown, after_known}
use Rattle.tendril_encoding.specs.Known.{ends_known, out_known, passes_known, slices}
use Rattle.tendril_encoding.specs.Sends.{FeedsNew, IsSentIn, IsShortOrNew, MayFail, NewStops, NoMemory}
use Rattle.tendril_encoding.specs.declared.known.Chosen.{Chosen}
use Rattle.tendril_encoding.specs.declared.known.Chosen.TheVariants.{Pieces, Slices}
use Rattle.tendril_lossy.specs.Lossy.{Char, kept}
use Rattle.tendril_text.proofs.Feeds.{Feeds-none, Feeds-one, Feeds-same, Feeds-weaker, Stops-call, Stops-weaker}
use Rattle.tendril_stream.specs.Decoders.{FeedsPiece, StopsInPiece}
use Rattle.tendril_stream.specs.Decodings.{PieceMay, utf8}
use Rattle.tendril_stream.specs.Sinks.{Sent, Piece, Feeds, IsSentOf, RefusesCall, Stops, told_of}
use Rattle.tendril_text.specs.TextLists.{no_text}
use Rattle.tendril_text.specs.Texts.{Text}

pub fit_whole : (c : Chosen) (piece : Text) → 0 < length piece.bytes → IsAscii piece.bytes
    → FitKnown c piece (Piece piece)
fit_whole c piece some ascii = (inr (inr (refl, (some, IsUtf8-from_ascii piece.bytes ascii))), λ _ _. refl)

pub fit_of : (c : Chosen) (piece : Text) → (passes_known c ≡ true → IsAscii piece.bytes → ⊥) → (e : Sent)
    → IsSentOf piece e → FitKnown c piece e
fit_of c piece not e h = (inl h, λ p ascii. absurd (not p ascii))

pub some_from : (l : List ℕ) (r : Bool) → (l ≡ [] → IsTrue r) → r ≡ false → 0 < length l
some_from [] r h f = absurd (true≢false (sym (h refl) ∙ f))
some_from (x ∷ l) r h f = omega arith

pub fit_other : (c : Chosen) (piece : Text) → (passes_known c ≡ true → IsAscii piece.bytes → ⊥) → (e : Sent)
    → IsShortOrNew e → FitKnown c piece e
fit_other c piece not e h = (h piece, λ p ascii. absurd (not p ascii))

module _ {S : Type 0} (takes : S → Sent → S → Type 0) (c : Chosen) (piece : Text) (passes : passes_known c ≡ true)
    (ascii : IsAscii piece.bytes) where
  pub feeds_none : (a : S) → length piece.bytes ≡ 0 → FeedsKnown takes a c piece a
  feeds_none a none =
      Feeds-same takes (FitKnown c piece) a a [] (out_known c piece.bytes)
      (sym (out_ascii c piece.bytes passes ascii ∙ ap (λ l. map Char (chars l)) (nil_from_length piece.bytes none)
      ∙ ap (map Char) chars-nil))
      (Feeds-none takes (FitKnown c piece) a)

  pub feeds_whole : (a b : S) → 0 < length piece.bytes → takes a (Piece piece) b → FeedsKnown takes a c piece b
  feeds_whole a b some h =
      Feeds-same takes (FitKnown c piece) a b (told_of (Piece piece)) (out_known c piece.bytes)
      (sym (out_ascii c piece.bytes passes ascii))
      (Feeds-one takes (FitKnown c piece) a (Piece piece) b (fit_whole c piece some ascii) h)

  pub stops_whole : (refuses : S → Sent → Refusal → S → Type 0) (a b : S) (r : Refusal) → 0 < length piece.bytes
      → RefusesCall refuses a (Piece piece) r b → StopsInKnown takes refuses a c piece r b
  stops_whole refuses a b r some h =
      Stops-call takes refuses (FitKnown c piece) (MayFail piece) a (Piece piece) [] (out_known c piece.bytes) r b
      (fit_whole c piece some ascii)
      (append-nil (told_of (Piece piece)) ∙ sym (out_ascii c piece.bytes passes ascii)) h

-- A piece that isn't passed on as it is: in UTF-8, and by slices.
module _ {S : Type 0} (takes : S → Sent → S → Type 0) (refuses : S → Sent → Refusal → S → Type 0) (c : Chosen)
    (piece : Text) (not : passes_known c ≡ true → IsAscii piece.bytes → ⊥) where
  pub feeds_pieces : (a b : S) (k next : List ℕ) → c ≡ Pieces k → FeedsPiece utf8 takes a k piece b
      × (next ≡ kept (k ++ piece.bytes)) → FeedsKnown takes a c piece b × (Pieces next ≡ after_known c piece.bytes)
  feeds_pieces a b k next is h = (
    Feeds-weaker takes (FitKnown c piece) (IsSentOf piece) (fit_of c piece not) a b (out_known c piece.bytes)
        (subst (λ d. Feeds takes (IsSentOf piece) a (out_known d piece.bytes) b) (sym is) h.0),
    ap Pieces h.1 ∙ sym (ap (λ d. after_known d piece.bytes) is),
  )

  pub stops_pieces : (a b : S) (k : List ℕ) (r : Refusal) → c ≡ Pieces k → StopsInPiece utf8 takes refuses a k piece r b
      → StopsInKnown takes refuses a c piece r b
  stops_pieces a b k r is h =
      Stops-weaker takes refuses (FitKnown c piece) (MayFail piece) (IsSentOf piece) (PieceMay piece)
      (fit_of c piece not)
      (λ x e may. inr may) a b (out_known c piece.bytes) r
      (subst (λ d. Stops takes refuses (IsSentOf piece) (PieceMay piece) a (out_known d piece.bytes) r b) (sym is) h)

  pub feeds_slices : (a b : S) (d next : AnyDecoder) → c ≡ Slices d
      → FeedsNew takes a (told_from slices d piece.bytes) b
      × (next ≡ state_after slices d piece.bytes) → FeedsKnown takes a c piece b
      × (Slices next ≡ after_known c piece.bytes)
  feeds_slices a b d next is h = (
    Feeds-weaker takes (FitKnown c piece) IsShortOrNew (fit_other c piece not) a b (out_known c piece.bytes)
        (subst (λ x. FeedsNew takes a (out_known x piece.bytes) b) (sym is) h.0),
    ap Slices h.1 ∙ sym (ap (λ x. after_known x piece.bytes) is),
  )

  pub stops_slices : (a b : S) (d : AnyDecoder) (r : Refusal) → c ≡ Slices d
      → NewStops takes refuses a (told_from slices d piece.bytes) r b → StopsInKnown takes refuses a c piece r b
  stops_slices a b d r is h =
      Stops-weaker takes refuses (FitKnown c piece) (MayFail piece) IsShortOrNew NoMemory (fit_other c piece not)
      (λ x e may. inl may) a b (out_known c piece.bytes) r
      (subst (λ x. NewStops takes refuses a (out_known x piece.bytes) r b) (sym is) h)

-- what is sent at the end
pub end_new : (e : Sent) → IsShortOrNew e → IsSentIn no_text e
end_new e h = h no_text

module _ {S : Type 0} (takes : S → Sent → S → Type 0) (refuses : S → Sent → Refusal → S → Type 0) (c : Chosen)
    (d : AnyDecoder) (is : c ≡ Slices d) where
  pub ends_slices : (a b : S) → FeedsNew takes a (slices.ends d) b → EndsKnown takes a c b
  ends_slices a b h =
      Feeds-weaker takes (IsSentIn no_text) IsShortOrNew end_new a b (ends_known c)
      (subst (λ x. FeedsNew takes a (ends_known x) b) (sym is) h)

  pub end_stops_slices : (a b : S) (r : Refusal) → NewStops takes refuses a (slices.ends d) r b
      → StopsInEndKnown takes refuses a c r b
  end_stops_slices a b r h =
      Stops-weaker takes refuses (IsSentIn no_text) (MayFail no_text) IsShortOrNew NoMemory end_new
      (λ x e may. inl may) a b (ends_known c) r
      (subst (λ x. NewStops takes refuses a (ends_known x) r b) (sym is) h)
