-- What a decoder passes to a receiver (a sink, or a closure): texts and errors; as a list, characters and errors.
use Rattle.std.specs.Prelude.{◌≡◌, ℕ, ◌⊎◌, List, [], ◌∷◌, ◌++◌, drop, map, flat_map, chars, All}
use Rattle.std.specs.List.{FoldsTo}
use Rattle.tendril_text.specs.Decoding.{IsHandedOn, IsRest, LongTextMay}
use Rattle.tendril_errors.specs.declared.refusal.Refusal.{Refusal}
use Rattle.tendril_errors.specs.declared.refusal.Refusal.TheVariants.{SinkRefused}
use Rattle.tendril_lossy.specs.Lossy.{Item, Told, Char, Mark, lossy, closed_of, due_open, kept}
use Rattle.tendril_storage.specs.Texts.{Text}

-- a text, or an error with its message
pub data Sent : Type 0 where
  Piece : Text → Sent
  Fault : List ℕ → Sent

-- the list of what was sent: the text's characters, or the error
abbrev pub told_of : Sent → List Told
told_of (Piece t) = map Char (chars t.bytes)
told_of (Fault words) = Mark words ∷ []

abbrev pub told : List Sent → List Told
told sent = flat_map told_of sent

-- what the decoder of UTF-8 sends of a piece: an error, or a text that isn't empty and has at most 8 bytes, shares the
-- piece's block, or is the piece
abbrev pub IsSentOf : Text → Sent → Type 0
IsSentOf piece (Piece t) = IsHandedOn piece t
IsSentOf piece (Fault words) = Unit {0}

-- A receiver accepted calls, one after another, that send the list `due`. `fit` says which calls these may be.
pub record Feeds {S : Type 0} (takes : S → Sent → S → Type 0) (fit : Sent → Type 0) (old : S) (due : List Told)
    (new : S) : Type 0 where
  pub sent : List Sent
  pub each : All fit sent
  pub calls : FoldsTo takes old sent new
  pub tells : told sent ≡ due

-- the receiver returned an error for this call, and the decoder returns SinkRefused
abbrev pub RefusesCall : {S : Type 0} → (S → Sent → Refusal → S → Type 0) → S → Sent → Refusal → S → Type 0
RefusesCall refuses mid call refusal new = (refusal ≡ SinkRefused) × ((r : Refusal) × refuses mid call r new)

-- the receiver returned an error for `call`, which sends a prefix of `due`, the part of the piece's decoding that isn't
-- sent yet
pub record SinkRefuses {S : Type 0} (refuses : S → Sent → Refusal → S → Type 0) (fit : Sent → Type 0) (mid : S)
    (due : List Told) (refusal : Refusal) (new : S) : Type 0 where
  pub call : Sent
  pub is_fit : fit call
  pub rest : List Told
  pub front : told_of call ++ rest ≡ due
  pub refused : RefusesCall refuses mid call refusal new

-- The receiver returned an error, or the decoder returned one of its own and made no call. `may` says which of these it
-- may return while the list is still to be sent.
abbrev pub IsStop : {S : Type 0} → (S → Sent → Refusal → S → Type 0) → (Sent → Type 0) → (List Told → Refusal → Type 0)
    → S → List Told → Refusal → S → Type 0
IsStop refuses fit may mid due refusal new =
    (may due refusal × (new ≡ mid)) ⊎ SinkRefuses refuses fit mid due refusal new

-- a receiver accepted calls that send a prefix of `due`, and then there was an error
pub record Stops {S : Type 0} (takes : S → Sent → S → Type 0) (refuses : S → Sent → Refusal → S → Type 0)
    (fit : Sent → Type 0) (may : List Told → Refusal → Type 0) (old : S) (due : List Told) (refusal : Refusal)
    (new : S) : Type 0 where
  pub sent : List Sent
  pub each : All fit sent
  pub mid : S
  pub calls : FoldsTo takes old sent mid
  pub rest : List Told
  pub front : told sent ++ rest ≡ due
  pub stop : IsStop refuses fit may mid rest refusal new

-- A receiver accepted calls that pass on the decoding of a piece before a suffix, and the suffix is left.
pub record PassesUpTo {S : Type 0} (takes : S → Sent → S → Type 0) (piece rest : Text) (old new : S) : Type 0 where
  pub at : ℕ
  pub end : rest.bytes ≡ drop at piece.bytes
  pub part : IsRest piece rest
  pub before : List Item
  pub items : lossy piece.bytes ≡ before ++ lossy rest.bytes
  pub keeps : kept piece.bytes ≡ kept rest.bytes
  pub feeds : Feeds takes (IsSentOf piece) old (flat_map closed_of before) new

-- no error but the receiver's
abbrev pub no_other : List Told → Refusal → Type 0
no_other due refusal = ⊥

-- the text at the start of the suffix couldn't be taken out of its block, or the receiver returned an error
abbrev pub Interrupts : {S : Type 0} → (S → Sent → S → Type 0) → (S → Sent → Refusal → S → Type 0) → Text → Text → S
    → Refusal → S → Type 0
Interrupts takes refuses piece rest old refusal new =
    (LongTextMay rest.bytes refusal × PassesUpTo takes piece rest old new)
    ⊎ Stops takes refuses (IsSentOf piece) no_other old (due_open piece.bytes) refusal new

-- a closure as a receiver: it is called with the texts, and doesn't see the errors
abbrev pub CallsWith : {P : Type 0} → (P → Text → Unit {0} → P → Type 0) → P → Sent → P → Type 0
CallsWith step push (Piece t) last = step push t tt last
CallsWith step push (Fault words) last = last ≡ push
