-- Lines of a stream of texts.
use Rattle.std.specs.Prelude.{◌≡◌, ◌<◌, ℕ, ◌⊎◌, List, [], ◌∷◌, ◌++◌, length, drop, flat_map, All, IsUtf8}
use Rattle.std.specs.List.{FoldsTo}
use Rattle.tendril_errors.specs.declared.limits.TheConstants.{INLINE_LEN}
use Rattle.tendril_errors.specs.declared.refusal.Refusal.{Refusal}
use Rattle.tendril_errors.specs.declared.refusal.Refusal.TheVariants.{Count, SinkRefused}
use Rattle.tendril_errors.specs.Outcomes.{LengthMust, MemoryMay, Refused}
use Rattle.tendril_fmt.specs.Parts.{IsEndOf, IsFrontOf}
use Rattle.tendril_lossy.specs.Lossy.{Told}
use Rattle.tendril_stream.specs.Sinks.{Sent, Piece, Fault, IsSent, RefusesCall, told}
use Rattle.tendril_text.specs.Decoding.{IsRest}
use Rattle.tendril_fmt.specs.Cuts.{IsWholeLine, LacksFeed}
use Rattle.tendril_text.specs.TextLists.{bytes_of_all, unless_empty}
use Rattle.tendril_text.specs.Texts.{Text, PartCost}

-- Bytes are whole lines, one after another, and then `rest`, the start of one more. They are so in one way only.
pub record AreWholeLines (bytes : List ℕ) (lines : List Text) (rest : List ℕ) : Type 0 where
  pub each : All (λ l. IsWholeLine l.bytes) lines
  pub lacks : LacksFeed rest
  pub whole : bytes ≡ bytes_of_all lines ++ rest

-- the lines that lie in one text: all but the first, if that begins with bytes that were kept
abbrev pub in_one_text : List ℕ → List Text → List Text
in_one_text [] lines = lines
in_one_text (b ∷ kept) lines = drop 1 lines

-- The start of a line was kept, and a text came in. Each whole line was sent, and what follows the last one is kept.
-- Lines that lie in the text share its block, and so does what is kept unless it was joined.
pub record SendsLines {S : Type 0} (takes : S → Sent → S → Type 0) (old : S) (kept text : Text) (new : S) (next : Text)
    : Type 0 where
  pub lines : List Text
  pub sent : FoldsTo (λ s l t. takes s (Piece l) t) old lines new
  pub valid : All (λ l. IsUtf8 l.bytes) lines
  pub are : AreWholeLines (kept.bytes ++ text.bytes) lines next.bytes
  pub share : All (PartCost text) (in_one_text kept.bytes lines)
  pub kept_shares : (kept.bytes ≡ []) ⊎ (0 < length lines) → IsRest text next

-- Count is permitted: the next line and the bytes after it have more than 8 bytes each, and lie in the text
pub record HasLongNextLine (text bytes : List ℕ) (r : Refusal) : Type 0 where
  pub line : List ℕ
  pub after : List ℕ
  pub is : IsWholeLine line
  pub front : bytes ≡ line ++ after
  pub behind : IsEndOf bytes text
  pub refusal : r ≡ Count
  pub long : INLINE_LEN < length line
  pub many : INLINE_LEN < length after

-- the first line of these bytes, or all of them, if they have no LF
abbrev pub BeginsLine : List ℕ → List ℕ → Type 0
BeginsLine line bytes = (IsWholeLine line × IsFrontOf line bytes) ⊎ (LacksFeed line × (line ≡ bytes))

-- The start of a line that was kept, and what a text adds to it, aren't joined: they have more bytes than a text can
-- have, or there is no memory. `bytes` are both.
pub record JoinStops (kept bytes : List ℕ) (r : Refusal) : Type 0 where
  pub line : List ℕ
  pub is : BeginsLine line bytes
  pub some : 0 < length kept
  pub refused : Refused (LengthMust (length line)) (MemoryMay (length line)) r

-- The next line wasn't sent: the sink returned an error for it, or it couldn't be made. `rest` is the line and what
-- follows it.
abbrev pub NextLineStops : {S : Type 0} → (S → Sent → Refusal → S → Type 0) → Text → Text → List Text → S → List ℕ
    → Refusal → S → Type 0
NextLineStops refuses kept text lines mid rest refusal new =
    ((line : Text) × IsWholeLine line.bytes × IsFrontOf line.bytes rest
    × RefusesCall refuses mid (Piece line) refusal new)
    ⊎ ((new ≡ mid) × (HasLongNextLine text.bytes rest refusal ⊎ ((lines ≡ []) × JoinStops kept.bytes rest refusal)))

-- some lines were sent, and then there was an error
pub record StopsInLines {S : Type 0} (takes : S → Sent → S → Type 0) (refuses : S → Sent → Refusal → S → Type 0)
    (old : S) (kept text : Text) (refusal : Refusal) (new : S) : Type 0 where
  pub lines : List Text
  pub each : All (λ l. IsWholeLine l.bytes) lines
  pub mid : S
  pub sent : FoldsTo (λ s l t. takes s (Piece l) t) old lines mid
  pub rest : List ℕ
  pub front : kept.bytes ++ text.bytes ≡ bytes_of_all lines ++ rest
  pub stop : NextLineStops refuses kept text lines mid rest refusal new

-- a call that returned Ok, while the start of a line was kept
abbrev pub TakesForLines : {S : Type 0} → (S → Sent → S → Type 0) → S → Text → Sent → S → Text → Type 0
TakesForLines takes old kept (Piece text) new next = SendsLines takes old kept text new next
TakesForLines takes old kept (Fault words) new next = takes old (Fault words) new × (next ≡ kept)

-- a call that returned an error, where none had been returned before
abbrev pub RefusesForLines : {S : Type 0} → (S → Sent → S → Type 0) → (S → Sent → Refusal → S → Type 0) → S → Text
    → Sent → Refusal → S → Type 0
RefusesForLines takes refuses old kept (Piece text) refusal new = StopsInLines takes refuses old kept text refusal new
RefusesForLines takes refuses old kept (Fault words) refusal new = RefusesCall refuses old (Fault words) refusal new

-- at the end, what is kept is sent as the last line, unless it is empty
abbrev pub SendsLast : {S : Type 0} → (S → Sent → S → Type 0) → S → List ℕ → Text → S → Type 0
SendsLast takes old [] kept new = new ≡ old
SendsLast takes old (b ∷ bytes) kept new = takes old (Piece kept) new

-- a `finish` that returned Ok
abbrev pub FinishesLines : {S O : Type 0} → (S → Sent → S → Type 0) → (S → O → Type 0) → S → Text → O → Type 0
FinishesLines {S} takes finishes old kept out =
    (last : S) × SendsLast takes old kept.bytes kept last × finishes last out

-- a `finish` that returned an error: the sink's, for the last line or from its own `finish`
abbrev pub EndStopsLines : {S : Type 0} → (S → Sent → S → Type 0) → (S → Sent → Refusal → S → Type 0)
    → (S → Refusal → Type 0) → S → Text → Refusal → Type 0
EndStopsLines {S} takes refuses ends old kept refusal =
    ((last : S) × (0 < length kept.bytes) × RefusesCall refuses old (Piece kept) refusal last)
    ⊎ ((last : S) × SendsLast takes old kept.bytes kept last × (refusal ≡ SinkRefused) × ((r : Refusal) × ends last r))

-- Lines joined

-- the texts among these calls
abbrev pub text_of_call : Sent → List Text
text_of_call (Piece t) = t ∷ []
text_of_call (Fault words) = []

abbrev pub texts_of_calls : List Sent → List Text
texts_of_calls calls = flat_map text_of_call calls

-- all lines of these bytes: whole ones, and the last one, if the bytes don't end with an LF
pub record AreAllLines (bytes : List ℕ) (lines : List Text) : Type 0 where
  pub ended : List Text
  pub last : Text
  pub lines_are : lines ≡ ended ++ unless_empty last
  pub are : AreWholeLines bytes ended last.bytes

-- Since a sink was `old` it was sent the whole lines of these bytes, and maybe errors; `rest` follows the lines.
pub record HasLines {S : Type 0} (takes : S → Sent → S → Type 0) (old : S) (bytes : List ℕ) (now : S) (rest : List ℕ)
    : Type 0 where
  pub calls : List Sent
  pub made : FoldsTo takes old calls now
  pub fit : All IsSent calls
  pub are : AreWholeLines bytes (texts_of_calls calls) rest

-- since a sink was `old` it was sent all lines of these bytes, and maybe errors
pub record HasAllLines {S : Type 0} (takes : S → Sent → S → Type 0) (old : S) (bytes : List ℕ) (now : S)
    : Type 0 where
  pub calls : List Sent
  pub made : FoldsTo takes old calls now
  pub fit : All IsSent calls
  pub are : AreAllLines bytes (texts_of_calls calls)

-- The lines that a sink is sent don't depend on where a stream is cut: none was sent before the first text, each text
-- completes lines, errors add none, and at the end all lines were sent. What the sink knows of all that it was sent, it
-- knows of these lines.
pub record ComposesLines {S : Type 0} (takes : S → Sent → S → Type 0) (after : S → List Told → Type 0) : Type 0 where
  pub begins : (sink : S) → HasLines takes sink [] sink []
  pub goes_on : (old sink next : S) (bytes : List ℕ) (kept text line : Text) → HasLines takes old bytes sink kept.bytes
      → SendsLines takes sink kept text next line → HasLines takes old (bytes ++ text.bytes) next line.bytes
  pub passes : (old sink next : S) (bytes rest words : List ℕ) → HasLines takes old bytes sink rest
      → takes sink (Fault words) next → HasLines takes old bytes next rest
  pub ends : (old sink last : S) (bytes : List ℕ) (kept : Text) → IsUtf8 kept.bytes
      → HasLines takes old bytes sink kept.bytes → SendsLast takes sink kept.bytes kept last
      → HasAllLines takes old bytes last
  pub tells : (old now : S) (bytes : List ℕ) (t : List Told) → after old t → (h : HasAllLines takes old bytes now)
      → after now (t ++ told h.calls)
