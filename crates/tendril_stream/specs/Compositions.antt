-- A decoder over a sink with a property that follows from what it was sent.
use Rattle.std.specs.Prelude.{
  ◌≡◌,
  ◌≤◌,
  ℕ,
  Bool,
  true,
  ◌⊎◌,
  List,
  [],
  ◌∷◌,
  ◌++◌,
  length,
  flat_map,
  All,
  Option,
  Some,
  None,
}
use Rattle.std.specs.List.{Contains}
use Rattle.std.specs.Iterator.{YieldsThen}
use Rattle.tendril_errors.specs.declared.refusal.Refusal.{Refusal}
use Rattle.tendril_text.specs.Texts.{Text}
use Rattle.tendril_lossy.specs.Lossy.{Told}
use Rattle.tendril_stream.specs.Decoders.{Decodes, Ends, EndStops, StopsInPiece}
use Rattle.tendril_stream.specs.Decodings.{Decoding}
use Rattle.tendril_stream.specs.Reads.{OneRead, Gave, CameToEnd, MayReadOn, StopsWith, given}
use Rattle.tendril_stream.specs.Sinks.{Sent, Piece, IsSent, told_of}
use Rattle.tendril_text.specs.TextLists.{no_text}

-- if `after a told` holds, and accepting e turns the sink a into b, then `after b (told ++ told_of e)` holds; e is one
-- that a decoder sends
abbrev pub FollowsCalls : {S : Type 0} → (S → Sent → S → Type 0) → (S → List Told → Type 0) → Type 0
FollowsCalls {S} takes after =
    (told : List Told) (a : S) (e : Sent) (b : S) → IsSent e → after a told → takes a e b → after b (told ++ told_of e)

-- a decoder has decoded the bytes b: it keeps the state k after them, and its sink was sent their output
pub record StandsAt {K S : Type 0} (decoding : Decoding K) (after : S → List Told → Type 0) (sink : S) (k : K)
    (b : List ℕ) : Type 0 where
  pub tells : after sink (decoding.out decoding.start b)
  pub keeps : k ≡ decoding.after decoding.start b

-- Decoding doesn't depend on where a stream is cut: a new decoder has decoded no bytes, each piece adds its bytes to
-- those that were decoded, and at the end the sink was sent the decoding of all.
pub record Composes {K S O : Type 0} (decoding : Decoding K) (takes : S → Sent → S → Type 0) (finishes : S → O → Type 0)
    (after : S → List Told → Type 0) : Type 0 where
  pub begins : (sink : S) → after sink [] → StandsAt decoding after sink decoding.start []
  pub goes_on : (sink next : S) (k l : K) (b : List ℕ) (piece : Text) → StandsAt decoding after sink k b
      → Decodes decoding takes sink k (Piece piece) next l → StandsAt decoding after next l (b ++ piece.bytes)
  pub ends : (sink : S) (k : K) (b : List ℕ) (out : O) → StandsAt decoding after sink k b
      → Ends decoding takes finishes sink k out → (last : S) × after last (decoding.decoded b) × finishes last out

-- what a decoder may send of one of these pieces, or at the end of their stream
abbrev pub IsSentOfOne : {K : Type 0} → Decoding K → List Text → Sent → Type 0
IsSentOfOne {K} decoding pieces e =
    (k : K) × (((piece : Text) × Contains pieces piece × decoding.fit k piece e) ⊎ decoding.fit k no_text e)

-- Decoding the pieces of an iterator stopped with an error, at one piece or at the end. The sink was sent the decoding
-- of the pieces before, and a prefix of what that piece or the end adds.
pub record PiecesStop {K I It S : Type 0} (decoding : Decoding K) (becomes : I → It → Type 0)
    (steps : It → Option Text → It → Type 0)
    (takes : S → Sent → S → Type 0) (refuses : S → Sent → Refusal → S → Type 0) (ends : S → Refusal → Type 0)
    (after : S → List Told → Type 0) (pieces : I) (refusal : Refusal) : Type 0 where
  pub iterator : It
  pub made : becomes pieces iterator
  pub read : List Text
  pub last : It
  pub sink : S
  pub tells : after sink (decoding.out decoding.start (flat_map (λ p. p.bytes) read))
  pub stop : ((p : Text) × YieldsThen steps iterator read (Some p) last × (s : S)
      × StopsInPiece decoding takes refuses sink (decoding.after decoding.start (flat_map (λ p. p.bytes) read)) p
      refusal s)
      ⊎ (YieldsThen steps iterator read None last
      × EndStops decoding takes refuses ends sink (decoding.after decoding.start (flat_map (λ p. p.bytes) read))
      refusal)

-- A new decoder returned an error for the piece of the last read, and is returned failed. Its sink was sent the
-- decoding of what was read before, and a prefix of what that piece adds.
pub record StreamStopsAtPiece {K S D : Type 0} (decoding : Decoding K) (takes : S → Sent → S → Type 0)
    (refuses : S → Sent → Refusal → S → Type 0)
    (after : S → List Told → Type 0) (inner : D → S) (failed : D → Bool) (max_reads : ℕ) (these : List OneRead)
    (refusal : Refusal) (handed : Option D) : Type 0 where
  pub before : List OneRead
  pub piece : Text
  pub sink : S
  pub decoder : D
  pub is : these ≡ before ++ Gave piece.bytes ∷ []
  pub tells : after sink (decoding.out decoding.start (given before))
  pub stops : StopsInPiece decoding takes refuses sink (decoding.after decoding.start (given before)) piece refusal
      (inner decoder)
  pub has_failed : failed decoder ≡ true
  pub back : handed ≡ Some decoder
  pub on : All MayReadOn these
  pub within : length these ≤ max_reads

-- A new decoder returned an error at the end, and was dropped. Its sink was sent the decoding of what was read, and a
-- prefix of what the end adds.
pub record StreamStopsAtEnd {K S D : Type 0} (decoding : Decoding K) (takes : S → Sent → S → Type 0)
    (refuses : S → Sent → Refusal → S → Type 0)
    (ends : S → Refusal → Type 0) (after : S → List Told → Type 0) (max_reads : ℕ) (these : List OneRead)
    (refusal : Refusal) (handed : Option D) : Type 0 where
  pub sink : S
  pub tells : after sink (decoding.out decoding.start (given these))
  pub stops : EndStops decoding takes refuses ends sink (decoding.after decoding.start (given these)) refusal
  pub gone : handed ≡ None
  pub at_end : StopsWith CameToEnd these
  pub within : length these ≤ max_reads

-- a new decoder returned an error for a stream that was read through it, at a piece or at the end
abbrev pub StreamStops : {K S D : Type 0} → Decoding K → (S → Sent → S → Type 0) → (S → Sent → Refusal → S → Type 0)
    → (S → Refusal → Type 0) → (S → List Told → Type 0) → (D → S) → (D → Bool) → ℕ → List OneRead → Refusal → Option D
    → Type 0
StreamStops decoding takes refuses ends after inner failed max_reads these refusal handed =
    StreamStopsAtPiece decoding takes refuses after inner failed max_reads these refusal handed
    ⊎ StreamStopsAtEnd decoding takes refuses ends after max_reads these refusal handed
