-- What a decoder of any encoding sends to its sink.
use Rattle.std.proofs.Common.{inl, inr}
use Rattle.std.specs.Prelude.{◌≡◌, ◌<◌, ◌⊎◌, ℕ, List, length, map, chars, IsUtf8}
use Rattle.tendril_errors.specs.declared.refusal.Refusal.{Refusal}
use Rattle.tendril_errors.specs.declared.refusal.Refusal.TheVariants.{Memory}
use Rattle.tendril_lossy.specs.Lossy.{Told, Char}
use Rattle.tendril_stream.specs.Sinks.{Sent, Piece, Fault, Feeds, IsSent, IsSentOf, Stops}
use Rattle.tendril_text.specs.Decoding.{LongPieceMay}
use Rattle.tendril_text.specs.Texts.{Text}

-- an error, or a new text: not empty, in UTF-8, all its bytes copied
abbrev pub IsNew : Sent → Type 0
IsNew (Piece t) = (0 < length t.bytes) × IsUtf8 t.bytes × (t.copied ≡ length t.bytes)
IsNew (Fault words) = Unit {0}

-- the piece itself
abbrev pub IsThePiece : Text → Sent → Type 0
IsThePiece piece e = (e ≡ Piece piece) × IsSent e

-- such a text, one that the decoder of UTF-8 sends, or the piece itself
abbrev pub IsSentIn : Text → Sent → Type 0
IsSentIn piece e = IsSentOf piece e ⊎ (IsNew e ⊎ IsThePiece piece e)

pub sent_in : (piece : Text) (e : Sent) → IsSentIn piece e → IsSent e
sent_in piece (Piece t) (inl h) = (h.some, h.text)
sent_in piece (Piece t) (inr (inl h)) = (h.0, h.1)
sent_in piece (Piece t) (inr (inr h)) = h.1
sent_in piece (Fault words) h = tt

-- the errors that the decoder may return of itself: an allocation failed, or a text can't share a long piece's block
abbrev pub MayFail : Text → List Told → Refusal → Type 0
MayFail piece told r = (r ≡ Memory) ⊎ LongPieceMay piece.bytes r

-- what a text tells
abbrev pub text_told : List ℕ → List Told
text_told bytes = map Char (chars bytes)

-- a sink accepted calls, one after another, that send the list `due` by errors and texts that are new or short
abbrev pub IsShortOrNew : Sent → Type 0
IsShortOrNew e = (piece : Text) → IsSentIn piece e

abbrev pub FeedsNew : {S : Type 0} → (S → Sent → S → Type 0) → S → List Told → S → Type 0
FeedsNew takes old due new = Feeds takes IsShortOrNew old due new

-- such a sink returned an error, or there was no memory for the next text
abbrev pub NoMemory : List Told → Refusal → Type 0
NoMemory told r = r ≡ Memory

abbrev pub NewStops : {S : Type 0} → (S → Sent → S → Type 0) → (S → Sent → Refusal → S → Type 0) → S → List Told
    → Refusal → S → Type 0
NewStops takes refuses old due refusal new = Stops takes refuses IsShortOrNew NoMemory old due refusal new
