-- What a decoder does to its inner sink.
use Rattle.std.specs.Prelude.{◌≡◌, ℕ, ◌⊎◌, Bool, true, false, List, [], ◌++◌, drop}
use Rattle.tendril_text.specs.Decoding.{IsRest}
use Rattle.tendril_text.specs.TextLists.{no_text}
use Rattle.tendril_text.specs.Texts.{Text}
use Rattle.tendril_errors.specs.declared.refusal.Refusal.{Refusal}
use Rattle.tendril_errors.specs.declared.refusal.Refusal.TheVariants.{SinkRefused}
use Rattle.tendril_lossy.specs.Lossy.{Told, due_open, kept}
use Rattle.tendril_stream.specs.Decodings.{Decoding}
use Rattle.tendril_stream.specs.Sinks.{Sent, Piece, Fault, Feeds, IsSentOf, RefusesCall, Stops}

-- What `resume` does with the kept bytes k and a piece. True: k was empty, or it was completed or replaced and sent;
-- the remainder of the piece is left, and no bytes are kept. False: the piece ends within the same character, and more
-- bytes are kept.
abbrev pub ResumesPiece : {S : Type 0} → (S → Sent → S → Type 0) → S → List ℕ → Text → Bool → S → List ℕ → Text → Type 0
ResumesPiece takes old k piece true new next rest =
    (told : List Told) × Feeds takes (IsSentOf piece) old told new
    × (due_open (k ++ piece.bytes) ≡ told ++ due_open rest.bytes)
    × (kept (k ++ piece.bytes) ≡ kept rest.bytes) × (next ≡ []) × IsRest piece rest
    × ((n : ℕ) × (rest.bytes ≡ drop n piece.bytes))
ResumesPiece takes old k piece false new next rest =
    (new ≡ old) × (due_open (k ++ piece.bytes) ≡ []) × (next ≡ kept (k ++ piece.bytes))

-- a decoder that kept k has sent what a piece outputs, or what the end of the stream does
abbrev pub FeedsPiece : {K S : Type 0} → Decoding K → (S → Sent → S → Type 0) → S → K → Text → S → Type 0
FeedsPiece decoding takes old k p new = Feeds takes (decoding.fit k p) old (decoding.out k p.bytes) new

abbrev pub FeedsEnd : {K S : Type 0} → Decoding K → (S → Sent → S → Type 0) → S → K → S → Type 0
FeedsEnd decoding takes old k new = Feeds takes (decoding.fit k no_text) old (decoding.ends k) new

-- a decoder that kept k has sent a prefix of that when there was an error
abbrev pub StopsInPiece : {K S : Type 0} → Decoding K → (S → Sent → S → Type 0) → (S → Sent → Refusal → S → Type 0)
    → S → K
    → Text → Refusal → S → Type 0
StopsInPiece decoding takes refuses old k p refusal new =
    Stops takes refuses (decoding.fit k p) (decoding.may p) old (decoding.out k p.bytes) refusal new

abbrev pub StopsInEnd : {K S : Type 0} → Decoding K → (S → Sent → S → Type 0) → (S → Sent → Refusal → S → Type 0) → S
    → K
    → Refusal → S → Type 0
StopsInEnd decoding takes refuses old k refusal new =
    Stops takes refuses (decoding.fit k no_text) (decoding.may no_text) old (decoding.ends k) refusal new

-- a call of a decoder that kept k, which returned Ok
abbrev pub Decodes : {K S : Type 0} → Decoding K → (S → Sent → S → Type 0) → S → K → Sent → S → K → Type 0
Decodes decoding takes old k (Piece p) new next =
    FeedsPiece decoding takes old k p new × (next ≡ decoding.after k p.bytes)
Decodes decoding takes old k (Fault words) new next = takes old (Fault words) new × (next ≡ k)

-- a call of a decoder that kept k and hadn't failed, which returned an error
abbrev pub DecodingStops : {K S : Type 0} → Decoding K → (S → Sent → S → Type 0) → (S → Sent → Refusal → S → Type 0)
    → S → K
    → Sent → Refusal → S → Type 0
DecodingStops decoding takes refuses old k (Piece p) refusal new = StopsInPiece decoding takes refuses old k p refusal
    new
DecodingStops decoding takes refuses old k (Fault words) refusal new =
    RefusesCall refuses old (Fault words) refusal new

-- a `finish` that returned Ok
abbrev pub Ends : {K S O : Type 0} → Decoding K → (S → Sent → S → Type 0) → (S → O → Type 0) → S → K → O → Type 0
Ends {K} {S} decoding takes finishes old k out = (last : S) × FeedsEnd decoding takes old k last × finishes last out

-- a `finish` that returned an error: while it sent what the end adds, or from the sink's own `finish`
abbrev pub EndStops : {K S : Type 0} → Decoding K → (S → Sent → S → Type 0) → (S → Sent → Refusal → S → Type 0)
    → (S → Refusal → Type 0) → S → K → Refusal → Type 0
EndStops {K} {S} decoding takes refuses ends old k refusal =
    ((last : S) × StopsInEnd decoding takes refuses old k refusal last)
    ⊎ ((last : S) × FeedsEnd decoding takes old k last × (refusal ≡ SinkRefused) × ((r : Refusal) × ends last r))
