-- A piece, or the end of a stream, in an encoding that a byte order mark may decide.
use Rattle.std.proofs.Common.{◌≡◌, ◌<◌, ◌≤◌, ℕ, true, List, [], ◌∷◌, ◌++◌, length, map, refl, sym, ap}
use Rattle.std.proofs.Common.{subst, inl, inr, ⊎_elim, ◌∙◌, arith, length-drop}
use Rattle.std.proofs.lemmas.Bool.{and_parts}
use Rattle.std.proofs.lemmas.List.Elements.{All-cons, All-head, All-nil, All-tail}
use Rattle.std.proofs.lemmas.Str.{encodes-chars}
use Rattle.std.specs.Prelude.{All, IsAscii, Option, Some, None, chars, encode_utf8_all}
use Rattle.tendril_errors.specs.declared.refusal.Refusal.{Refusal}
use Rattle.tendril_encoding.specs.Known.{EndsKnown, FeedsKnown, FitKnown, StopsInEndKnown, StopsInKnown, after_known}
use Rattle.tendril_encoding.specs.Known.{ends_known, out_known, passes_known}
use Rattle.tendril_encoding.specs.Marks.{seen_bytes, is_nothing}
use Rattle.tendril_encoding.specs.Sends.{FeedsNew, IsSentIn, IsShortOrNew, MayFail, NewStops, NoMemory}
use Rattle.tendril_encoding.specs.Sends.{sent_in}
use Rattle.tendril_encoding.specs.Starts.{Begins}
use Rattle.tendril_encoding.specs.States.{FitState, after_state, any, decided, ends_state}
use Rattle.tendril_encoding.specs.States.{out_sniff, passes, passes_sniffing}
use Rattle.tendril_encoding.specs.declared.kept.Sniffing.{Sniffing}
use Rattle.tendril_encoding.specs.declared.kept.State.{State}
use Rattle.tendril_encoding.specs.declared.known.Chosen.{Chosen}
use Rattle.tendril_encoding.specs.declared.known.Known.{Known}
use Rattle.tendril_encoding.specs.declared.mark.Seen.{Seen}
use Rattle.tendril_encoding.specs.declared.mark.Seen.TheVariants.{Nothing, Ef, EfBb, Ff, Fe}
use Rattle.tendril_lossy.specs.Lossy.{Told, Char}
use Rattle.tendril_text.proofs.Feeds.{Feeds-append, Feeds-none, Feeds-same, Feeds-weaker, Grows, Stops-after}
use Rattle.tendril_text.proofs.Feeds.{Stops-more, Stops-weaker}
use Rattle.tendril_stream.specs.Decoders.{FeedsEnd, FeedsPiece, StopsInEnd, StopsInPiece}
use Rattle.tendril_stream.specs.Sinks.{Sent, Piece, Fault, Feeds, IsSent, told, told_of}
use Rattle.tendril_text.proofs.Decoding.{handed-through, long-behind}
use Rattle.tendril_text.specs.Decoding.{IsRest}
use Rattle.tendril_text.specs.TextLists.{no_text}
use Rattle.tendril_text.specs.Texts.{Text}

some_nil : (l : List ℕ) → 0 < length l → l ≡ [] → ⊥
some_nil l some none = omega (arith, some, ap length none)

-- what is sent outputs something
no_chars : (cs : List ℕ) → map Char cs ≡ [] → cs ≡ []
no_chars [] h = refl
no_chars (c ∷ cs) h = cc

speaks : (e : Sent) → IsSent e → told_of e ≡ [] → ⊥
speaks (Piece t) is h =
    some_nil t.bytes is.0 (sym (encodes-chars t.bytes is.1) ∙ ap encode_utf8_all (no_chars (chars t.bytes) h))
speaks (Fault words) is h = cc

left_nil : (xs ys : List Told) → xs ++ ys ≡ [] → (xs ≡ []) × (ys ≡ [])
left_nil [] ys h = (refl, h)
left_nil (x ∷ xs) ys h = cc

seen_nothing : (s : Seen) → is_nothing s ≡ true → s ≡ Nothing
seen_nothing Nothing h = refl
seen_nothing Ef h = cc
seen_nothing EfBb h = cc
seen_nothing Ff h = cc
seen_nothing Fe h = cc

passes_seen : (s : Sniffing) → passes_sniffing (Some s) ≡ true → s.seen ≡ Nothing
passes_seen s h = seen_nothing s.seen h

-- what may be sent of the remainder of a piece may be sent of the piece
in_rest : (piece rest : Text) → IsRest piece rest → length rest.bytes ≤ length piece.bytes → (e : Sent)
    → IsSentIn rest e → IsSentIn piece e
in_rest piece rest part less (Piece t) (inl h) = inl (handed-through piece rest part less t h)
in_rest piece rest part less (Fault words) (inl h) = inl tt
in_rest piece rest part less e (inr (inl h)) = inr (inl h)
in_rest piece rest part less e (inr (inr h)) =
    subst (IsSentIn piece) (sym h.0)
    (let is : IsSent (Piece rest) = subst IsSent h.0 h.1 in
    ⊎_elim (λ same. inr (inr (ap Piece same, is)))
    (λ p. inl (record { some = is.0; text = is.1; within = λ _. less; part = p })) part)

may_grows : (piece : Text) → Grows (MayFail piece)
may_grows piece x y r h = h

module _ {S : Type 0} (takes : S → Sent → S → Type 0) (refuses : S → Sent → Refusal → S → Type 0) (k : Known)
    (piece : Text) where
  -- no mark is looked for
  fit_known : (e : Sent) → FitKnown k.chosen piece e → FitState (decided k) piece e
  fit_known e h = (h.0, λ p some ascii. h.1 p ascii)

  pub feeds_known : (a b : S) (next : Chosen) (o : Option Sniffing) → o ≡ None
      → FeedsKnown takes a k.chosen piece b × (next ≡ after_known k.chosen piece.bytes)
      → FeedsPiece any takes a (record { known = k; sniffing = o }) piece b
      × (record { known = record { encoding = k.encoding; chosen = next }; sniffing = o } ≡ after_state k o piece.bytes)
  feeds_known a b next o is h =
      subst (λ x. FeedsPiece any takes a (record { known = k; sniffing = x }) piece b
      × (record { known = record { encoding = k.encoding; chosen = next }; sniffing = x }
      ≡ after_state k x piece.bytes))
      (sym is) (
        Feeds-weaker takes (FitState (decided k) piece) (FitKnown k.chosen piece) fit_known a b
            (out_known k.chosen piece.bytes) h.0,
        ap (λ c. decided (record { encoding = k.encoding; chosen = c })) h.1,
      )

  pub stops_known : (a b : S) (o : Option Sniffing) (r : Refusal) → o ≡ None
      → StopsInKnown takes refuses a k.chosen piece r b
      → StopsInPiece any takes refuses a (record { known = k; sniffing = o }) piece r b
  stops_known a b o r is h =
      subst (λ x. StopsInPiece any takes refuses a (record { known = k; sniffing = x }) piece r b) (sym is)
      (Stops-weaker takes refuses (FitState (decided k) piece) (MayFail piece) (FitKnown k.chosen piece) (MayFail piece)
      fit_known (λ x e may. may) a b (out_known k.chosen piece.bytes) r h)

  -- a mark is looked for
  module _ (s : Sniffing) (o : Option Sniffing) (is : o ≡ Some s) where
    abbrev before : State
    before = record { known = k; sniffing = Some s }

    abbrev fit : Sent → Type 0
    fit e = FitState before piece e

    -- there was no memory for what was seen
    pub stops_begin : (a b : S) (r : Refusal) → (s.seen ≡ Nothing → IsAscii piece.bytes → ⊥)
        → NewStops takes refuses a (out_sniff s.marks k s.seen piece.bytes) r b
        → StopsInPiece any takes refuses a (record { known = k; sniffing = o }) piece r b
    stops_begin a b r quiet h =
        subst (λ x. StopsInPiece any takes refuses a (record { known = k; sniffing = x }) piece r b) (sym is)
        (Stops-weaker takes refuses fit (MayFail piece) IsShortOrNew NoMemory
        (λ e q. (q piece, λ p some ascii. absurd (quiet (passes_seen s (and_parts _ _ p).0) ascii)))
        (λ x e may. inl may) a b (out_sniff s.marks k s.seen piece.bytes) r h)

    -- the encoding is decided
    module _ (a m : S) (next : Known) (rest : Text) (h : Begins takes a k s piece None m next rest) where
      first_fit : (es : List Sent) → All IsShortOrNew es → (passes before ≡ true → IsAscii piece.bytes → told es ≡ [])
          → All fit es
      first_fit [] each none = All-nil fit
      first_fit (e ∷ es) each none =
          let here = All-head IsShortOrNew e es each piece in
          All-cons fit e es (
            here,
            λ p some ascii.
                absurd (speaks e (sent_in piece e here) (left_nil (told_of e) (told es) (none p ascii)).0),
          )
          (first_fit es (All-tail IsShortOrNew e es each)
          (λ p ascii. (left_nil (told_of e) (told es) (none p ascii)).1))

      first : Feeds takes fit a h.0 m
      first = record {
        sent = h.1.sent;
        each = first_fit h.1.sent h.1.each
            (λ p ascii. h.1.tells ∙ (h.6 (passes_seen s (and_parts _ _ p).0) ascii).2);
        calls = h.1.calls;
        tells = h.1.tells;
      }

      less : length rest.bytes ≤ length piece.bytes
      less = omega (arith, ap length h.5.1, length-drop h.5.0 piece.bytes)

      rest_fit : (e : Sent) → FitKnown next.chosen rest e → fit e
      rest_fit e q = (
        in_rest piece rest h.4 less e q.0,
        λ p some ascii.
            let same = h.6 (passes_seen s (and_parts _ _ p).0) ascii in
            q.1 (subst (λ (x : Known). passes_known x.chosen ≡ true) (sym same.1) (and_parts _ _ p).1)
            (subst (λ (t : Text). IsAscii t.bytes) (sym same.0) ascii) ∙ ap Piece same.0,
      )

      pub feeds_decided : (b : S) (last : Chosen)
          → FeedsKnown takes m next.chosen rest b × (last ≡ after_known next.chosen rest.bytes)
          → FeedsPiece any takes a (record { known = k; sniffing = o }) piece b
          × (record { known = record { encoding = next.encoding; chosen = last }; sniffing = None }
          ≡ after_state k o piece.bytes)
      feeds_decided b last g =
          subst (λ x. FeedsPiece any takes a (record { known = k; sniffing = x }) piece b
          × (record { known = record { encoding = next.encoding; chosen = last }; sniffing = None }
          ≡ after_state k x piece.bytes)) (sym is) (
            Feeds-same takes fit a b (h.0 ++ out_known next.chosen rest.bytes) (out_sniff s.marks k s.seen piece.bytes)
                (sym h.2)
                (Feeds-append takes fit a m b h.0 (out_known next.chosen rest.bytes) first
                (Feeds-weaker takes fit (FitKnown next.chosen rest) rest_fit m b
                (out_known next.chosen rest.bytes) g.0)),
            ap (λ c. decided (record { encoding = next.encoding; chosen = c })) g.1 ∙ sym h.3,
          )

      pub stops_decided : (b : S) (r : Refusal) → StopsInKnown takes refuses m next.chosen rest r b
          → StopsInPiece any takes refuses a (record { known = k; sniffing = o }) piece r b
      stops_decided b r g =
          subst (λ x. StopsInPiece any takes refuses a (record { known = k; sniffing = x }) piece r b) (sym is)
          (Stops-after takes refuses fit (MayFail piece) a m b h.0 (out_known next.chosen rest.bytes)
          (out_sniff s.marks k s.seen piece.bytes) r first
          (Stops-weaker takes refuses fit (MayFail piece) (FitKnown next.chosen rest) (MayFail rest) rest_fit
          (λ x e may. ⊎_elim (λ none. inl none) (λ long. inr (long-behind piece.bytes rest.bytes h.5.0 e h.5.1 long))
          may)
          m b (out_known next.chosen rest.bytes) r g)
          (sym h.2))

-- The end of a stream.
module _ {S : Type 0} (takes : S → Sent → S → Type 0) (refuses : S → Sent → Refusal → S → Type 0) (k : Known) where
  end_fit : (st : State) (e : Sent) → IsSentIn no_text e → FitState st no_text e
  end_fit st e h = (h, λ p some ascii. absurd (omega (arith, some)))

  seen_fit : (st : State) (e : Sent) → IsShortOrNew e → FitState st no_text e
  seen_fit st e h = end_fit st e (h no_text)

  pub feeds_end : (a b : S) (o : Option Sniffing) → o ≡ None → EndsKnown takes a k.chosen b
      → FeedsEnd any takes a (record { known = k; sniffing = o }) b
  feeds_end a b o is h =
      subst (λ x. FeedsEnd any takes a (record { known = k; sniffing = x }) b) (sym is)
      (Feeds-weaker takes (FitState (decided k) no_text) (IsSentIn no_text) (end_fit (decided k)) a b
      (ends_known k.chosen) h)

  pub stops_end : (a b : S) (o : Option Sniffing) (r : Refusal) → o ≡ None
      → StopsInEndKnown takes refuses a k.chosen r b
      → StopsInEnd any takes refuses a (record { known = k; sniffing = o }) r b
  stops_end a b o r is h =
      subst (λ x. StopsInEnd any takes refuses a (record { known = k; sniffing = x }) r b) (sym is)
      (Stops-weaker takes refuses (FitState (decided k) no_text) (MayFail no_text) (IsSentIn no_text)
      (MayFail no_text) (end_fit (decided k)) (λ x e may. may) a b (ends_known k.chosen) r h)

  -- after what was seen of a mark
  module _ (s : Sniffing) (o : Option Sniffing) (is : o ≡ Some s) where
    abbrev looking : State
    looking = record { known = k; sniffing = Some s }

    abbrev seen : List Told
    seen = out_known k.chosen (seen_bytes s.seen)

    pub feeds_seen_end : (a m b : S) (chosen : Chosen)
        → FeedsNew takes a seen m × (chosen ≡ after_known k.chosen (seen_bytes s.seen)) → EndsKnown takes m chosen b
        → FeedsEnd any takes a (record { known = k; sniffing = o }) b
    feeds_seen_end a m b chosen fed h =
        subst (λ x. FeedsEnd any takes a (record { known = k; sniffing = x }) b) (sym is)
        (Feeds-append takes (FitState looking no_text) a m b seen
        (ends_known (after_known k.chosen (seen_bytes s.seen)))
        (Feeds-weaker takes (FitState looking no_text) IsShortOrNew (seen_fit looking) a m seen fed.0)
        (Feeds-weaker takes (FitState looking no_text) (IsSentIn no_text) (end_fit looking) m b
        (ends_known (after_known k.chosen (seen_bytes s.seen)))
        (subst (λ c. EndsKnown takes m c b) fed.1 h)))

    pub stops_seen : (a b : S) (r : Refusal) → NewStops takes refuses a seen r b
        → StopsInEnd any takes refuses a (record { known = k; sniffing = o }) r b
    stops_seen a b r h =
        subst (λ x. StopsInEnd any takes refuses a (record { known = k; sniffing = x }) r b) (sym is)
        (Stops-more takes refuses (FitState looking no_text) (MayFail no_text) (may_grows no_text) a b seen
        (ends_known (after_known k.chosen (seen_bytes s.seen))) (ends_state k (Some s)) r
        (Stops-weaker takes refuses (FitState looking no_text) (MayFail no_text) IsShortOrNew NoMemory
        (seen_fit looking)
        (λ x e may. inl may) a b seen r h) refl)

    pub stops_seen_end : (a m b : S) (chosen : Chosen) (r : Refusal)
        → FeedsNew takes a seen m × (chosen ≡ after_known k.chosen (seen_bytes s.seen))
        → StopsInEndKnown takes refuses m chosen r b
        → StopsInEnd any takes refuses a (record { known = k; sniffing = o }) r b
    stops_seen_end a m b chosen r fed h =
        subst (λ x. StopsInEnd any takes refuses a (record { known = k; sniffing = x }) r b) (sym is)
        (Stops-after takes refuses (FitState looking no_text) (MayFail no_text) a m b seen
        (ends_known (after_known k.chosen (seen_bytes s.seen))) (ends_state k (Some s)) r
        (Feeds-weaker takes (FitState looking no_text) IsShortOrNew (seen_fit looking) a m seen fed.0)
        (Stops-weaker takes refuses (FitState looking no_text) (MayFail no_text) (IsSentIn no_text)
        (MayFail no_text)
        (end_fit looking) (λ x e may. may) m b (ends_known (after_known k.chosen (seen_bytes s.seen))) r
        (subst (λ c. StopsInEndKnown takes refuses m c r b) fed.1 h)) refl)
