-- A piece and its remainder: what is sent of the remainder, and errors there.
use Rattle.std.proofs.Common.{◌≡◌, ℕ, ◌≤◌, ◌<◌, List, ◌++◌, length, take, drop, flat_map, refl, sym, ap, arith}
use Rattle.std.proofs.Common.{inl, inr, length-drop, length-take}
use Rattle.tendril_text.proofs.Decoding.{long-behind, long-text}
use Rattle.tendril_text.proofs.Feeds.{Feeds-weaker, Grows, Stops-after, Stops-here, Stops-weaker}
use Rattle.tendril_text.proofs.Passing.{due_left, sent_through}
use Rattle.tendril_text.specs.Decoding.{IsHandedOn, IsRest}
use Rattle.tendril_text.specs.Receivers.{Feeds, Interrupts, IsSentOf, Sent, Stops, no_other}
use Rattle.tendril_text.specs.Texts.{Text, PopCost}
use Rattle.tendril_errors.specs.declared.refusal.Refusal.{Refusal}
use Rattle.tendril_lossy.specs.Completions.{CompletesTo}
use Rattle.tendril_lossy.specs.Lossy.{Told, closed_of, due_open}
use Rattle.tendril_stream.specs.Decodings.{PieceMay}

-- a piece permits the same error, whatever is still to be sent of it
pub piece_grows : (piece : Text) → Grows (PieceMay piece)
piece_grows piece x y r h = h

module _ {S : Type 0} (takes : S → Sent → S → Type 0) (refuses : S → Sent → Refusal → S → Type 0) where
  -- the sink's own error is one that a piece permits
  pub only_refused : (fit : Sent → Type 0) (piece : Text) (old new : S) (due : List Told) (r : Refusal)
      → Stops takes refuses fit no_other old due r new → Stops takes refuses fit (PieceMay piece) old due r new
  only_refused fit piece old new due r h =
      Stops-weaker takes refuses fit (PieceMay piece) fit no_other (λ e k. k) (λ x r k. absurd k) old new due r h

  pub interrupted : (piece rest : Text) (old new : S) (r : Refusal) → Interrupts takes refuses piece rest old r new
      → Stops takes refuses (IsSentOf piece) (PieceMay piece) old (due_open piece.bytes) r new
  interrupted piece rest old new r (inl h) =
      let so = h.1 in
      Stops-after takes refuses (IsSentOf piece) (PieceMay piece) old new new (flat_map closed_of so.before)
      (due_open rest.bytes) (due_open piece.bytes) r so.feeds
      (Stops-here takes refuses (IsSentOf piece) (PieceMay piece) new (due_open rest.bytes) r new
      (inl (long-text piece.bytes rest.bytes so.at r so.end h.0, refl)))
      (sym (due_left takes piece rest old new so))
  interrupted piece rest old new r (inr h) =
      only_refused (IsSentOf piece) piece old new (due_open piece.bytes) r h

module _ {S : Type 0} (takes : S → Sent → S → Type 0) (refuses : S → Sent → Refusal → S → Type 0) (piece rest : Text)
    (part : IsRest piece rest) (end : (n : ℕ) × (rest.bytes ≡ drop n piece.bytes)) where
  through : (e : Sent) → IsSentOf rest e → IsSentOf piece e
  through = sent_through piece rest part (omega (arith, ap length end.1, length-drop end.0 piece.bytes))

  pub Feeds-through : (a b : S) (told : List Told) → Feeds takes (IsSentOf rest) a told b
      → Feeds takes (IsSentOf piece) a told b
  Feeds-through a b told h = Feeds-weaker takes (IsSentOf piece) (IsSentOf rest) through a b told h

  pub Stops-through : (a b : S) (told : List Told) (r : Refusal)
      → Stops takes refuses (IsSentOf rest) (PieceMay rest) a told r b
      → Stops takes refuses (IsSentOf piece) (PieceMay piece) a told r b
  Stops-through a b told r h =
      Stops-weaker takes refuses (IsSentOf piece) (PieceMay piece) (IsSentOf rest) (PieceMay rest) through
      (λ x r k. long-behind piece.bytes rest.bytes end.0 r end.1 k) a b told r h

-- the first character of the kept bytes and a piece, as a text
pub short_handed : (piece t : Text) (k input rest : List ℕ) → 0 < length k → CompletesTo k input t.bytes rest
    → t.copied ≡ length t.bytes → IsHandedOn piece t
short_handed piece t k input rest some h copied =
    let len : length t.bytes ≤ 4 =
    omega (
      arith,
      ap length h.longest.front,
      length-take (length t.bytes) (take 4 (k ++ input)),
      length-take 4
          (k ++ input),
    ) in
    let covers = h.covers in record {
      some = omega (arith, some, covers);
      text = h.longest.text;
      within = λ long. absurd (omega (arith, len, long));
      part = (λ long. absurd (omega (arith, len, long)), λ _. omega (arith, len, copied));
    }

-- the remainder that a pop leaves
pub rest_kept : (piece rest : Text) → PopCost piece rest → IsRest piece rest
rest_kept piece rest k = inr (λ long. inr (k.0 long), k.1)
