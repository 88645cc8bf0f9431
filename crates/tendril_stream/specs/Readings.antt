-- What is read into a sink or a text, and where reading stops.
use Rattle.std.specs.Prelude.{
  ◌≡◌,
  ℕ,
  ◌<◌,
  ◌≤◌,
  ◌⊎◌,
  Bool,
  true,
  false,
  List,
  [],
  ◌∷◌,
  ◌++◌,
  length,
  map,
  flat_map,
  All,
  Option,
  Some,
  None,
  Result,
  Ok,
  Err,
  IfOk,
}
use Rattle.std.specs.Io.KnownBytes.{Consumes, IsAtEnd}
use Rattle.std.specs.List.{FoldsTo}
use Rattle.tendril_text.specs.Texts.{Text}
use Rattle.tendril_errors.specs.declared.refusal.Refusal.{Refusal}
use Rattle.tendril_errors.specs.declared.refusal.Refusal.TheVariants.{Io, Memory, TooLong, TooManyReads}
use Rattle.tendril_stream.specs.Reads.{
  OneRead,
  Gave,
  WasInterrupted,
  HasFailed,
  CameToEnd,
  MayReadOn,
  StopsWith,
  given,
}
use Rattle.tendril_stream.specs.Sinks.{Sent, Piece}
use Rattle.tendril_stream.specs.declared.reading.Part.{Part}
use Rattle.tendril_stream.specs.declared.reading.Part.TheVariants.{Bytes, Interrupted, End}

-- a reader made these reads; if `remaining` is known, they returned its first bytes, and what is left remains
abbrev pub MakesReads : {R : Type 0} → (R → List OneRead) → (R → Option (List ℕ)) → R → List OneRead → R → Type 0
MakesReads history remaining old these new =
    (history new ≡ history old ++ these) × Consumes (remaining old) (remaining new) (given these)

-- the read that returned this
abbrev pub read_for : {A B : _} → Part A B → OneRead
read_for (Bytes t) = Gave t.bytes
read_for Interrupted = WasInterrupted
read_for End = CameToEnd

-- a piece of one read: 1 to 4096 bytes
abbrev pub IsReadPiece : Text → Type 0
IsReadPiece piece = (0 < length piece.bytes) × (length piece.bytes ≤ 4096)

abbrev pub bytes_given : OneRead → List (List ℕ)
bytes_given (Gave bytes) = bytes ∷ []
bytes_given WasInterrupted = []
bytes_given HasFailed = []
bytes_given CameToEnd = []

-- the pieces of these reads, one for each read that returned bytes
pub record AreReadPieces (these : List OneRead) (pieces : List Text) : Type 0 where
  pub bytes : map (λ p. p.bytes) pieces ≡ flat_map bytes_given these
  pub each : All IsReadPiece pieces

-- what a read returned: such a piece, an interruption, or the end, where `remaining` has no bytes if it is known
abbrev pub IsReadPart : {A B : _} → Part A B → Option (List ℕ) → Type 0
IsReadPart (Bytes t) left = IsReadPiece t
IsReadPart Interrupted left = Unit {0}
IsReadPart End left = IsAtEnd left

-- a sink accepts the piece of a read; reads without bytes send it nothing
abbrev pub Hears : {S : Type 0} → (S → Sent → S → Type 0) → S → OneRead → S → Type 0
Hears takes old (Gave bytes) new =
    (piece : Text) × (piece.bytes ≡ bytes) × IsReadPiece piece × takes old (Piece piece) new
Hears takes old WasInterrupted new = new ≡ old
Hears takes old HasFailed new = new ≡ old
Hears takes old CameToEnd new = new ≡ old

-- a sink accepts the bytes of these reads, one piece for each read that returned bytes
abbrev pub Receives : {S : Type 0} → (S → Sent → S → Type 0) → S → List OneRead → S → Type 0
Receives takes old these new = FoldsTo (Hears takes) old these new

-- One read into a sink.
module _ {R S : Type 0} (history : R → List OneRead) (remaining : R → Option (List ℕ)) (reader reader' : R)
    (sink sink' : S) where
  -- true: the reader is at its end, and the sink is unchanged; false: another read may be made, and the sink accepted
  -- the piece of this one, if it has one
  abbrev pub ReadsOnce : (S → Sent → S → Type 0) → Bool → Type 0
  ReadsOnce takes true =
      MakesReads history remaining reader (CameToEnd ∷ []) reader' × IsAtEnd (remaining reader') × (sink' ≡ sink)
  ReadsOnce takes false =
      (one : OneRead) × MayReadOn one × MakesReads history remaining reader (one ∷ []) reader'
      × Hears takes sink one sink'

  -- There was no memory for the read; it failed; or the sink returned an error for its piece.
  abbrev pub ReadStops : (S → Sent → Refusal → S → Type 0) → Refusal → Type 0
  ReadStops refuses refusal =
      ((refusal ≡ Memory) × (reader' ≡ reader) × (sink' ≡ sink))
      ⊎ (((refusal ≡ Io) × MakesReads history remaining reader (HasFailed ∷ []) reader' × (sink' ≡ sink))
      ⊎ ((piece : Text) × IsReadPiece piece × MakesReads history remaining reader (Gave piece.bytes ∷ []) reader'
      × refuses sink (Piece piece) refusal sink'))

-- all was read, up to the first read of 0 bytes, the sink accepted it and finished; at most `max_reads` reads were made
pub record ReadsAll {S O : Type 0} (takes : S → Sent → S → Type 0) (finishes : S → O → Type 0) (max_reads : ℕ)
    (sink : S) (these : List OneRead) (out : O) : Type 0 where
  pub last : S
  pub receives : Receives takes sink these last
  pub finished : finishes last out
  pub ends : StopsWith CameToEnd these
  pub within : length these ≤ max_reads

-- all `max_reads` reads were made, or the last one failed, or there was no memory for the next one
abbrev pub StopsBetween : ℕ → List OneRead → Refusal → Type 0
StopsBetween max_reads these refusal =
    ((refusal ≡ TooManyReads) × All MayReadOn these × (length these ≡ max_reads))
    ⊎ (((refusal ≡ Io) × StopsWith HasFailed these × (length these ≤ max_reads))
    ⊎ ((refusal ≡ Memory) × All MayReadOn these × (length these < max_reads)))

-- an error that reading itself returns
abbrev pub IsOfReading : Refusal → Type 0
IsOfReading refusal = (refusal ≡ TooManyReads) ⊎ ((refusal ≡ Io) ⊎ (refusal ≡ Memory))

-- Reading stopped between two reads. The sink is returned, and has accepted all that was read.
pub record HaltsBetween {S : Type 0} (takes : S → Sent → S → Type 0) (max_reads : ℕ) (old : S) (these : List OneRead)
    (refusal : Refusal) (handed : Option S) : Type 0 where
  pub sink : S
  pub receives : Receives takes old these sink
  pub back : handed ≡ Some sink
  pub stops : StopsBetween max_reads these refusal

-- The sink returned an error for the piece of the last read, and is returned. It had accepted all that was read before.
pub record HaltsAtPiece {S : Type 0} (takes : S → Sent → S → Type 0) (refuses : S → Sent → Refusal → S → Type 0)
    (max_reads : ℕ) (old : S) (these : List OneRead) (refusal : Refusal) (handed : Option S) : Type 0 where
  pub sink : S
  pub before : List OneRead
  pub piece : Text
  pub last : S
  pub receives : Receives takes old before sink
  pub is : these ≡ before ++ Gave piece.bytes ∷ []
  pub read : IsReadPiece piece
  pub refused : refuses sink (Piece piece) refusal last
  pub back : handed ≡ Some last
  pub on : All MayReadOn these
  pub within : length these ≤ max_reads

-- The sink's `finish` returned an error, and the sink was dropped. It had accepted all that was read.
pub record HaltsAtEnd {S : Type 0} (takes : S → Sent → S → Type 0) (ends : S → Refusal → Type 0) (max_reads : ℕ)
    (old : S) (these : List OneRead) (refusal : Refusal) (handed : Option S) : Type 0 where
  pub sink : S
  pub receives : Receives takes old these sink
  pub refused : ends sink refusal
  pub gone : handed ≡ None
  pub at_end : StopsWith CameToEnd these
  pub within : length these ≤ max_reads

-- reading into a sink stopped at one of these three places
abbrev pub Halts : {S : Type 0} → (S → Sent → S → Type 0) → (S → Sent → Refusal → S → Type 0) → (S → Refusal → Type 0)
    → ℕ → S → List OneRead → Refusal → Option S → Type 0
Halts takes refuses ends max_reads old these refusal handed =
    HaltsBetween takes max_reads old these refusal handed
    ⊎ (HaltsAtPiece takes refuses max_reads old these refusal handed
    ⊎ HaltsAtEnd takes ends max_reads old these refusal handed)

-- Why reading into a text stopped, and the text's length then. Ok: the reader is at its end. TooLong: the text is as
-- long as a text can be. Other errors: as `StopsBetween`.
abbrev pub Fills : {T : Type 0} → ℕ → List OneRead → Result T Refusal → ℕ → Type 0
Fills max_reads these (Ok count) len = StopsWith CameToEnd these × (length these ≤ max_reads) × (len < 4294967295)
Fills max_reads these (Err refusal) len =
    ((refusal ≡ TooLong) × (len ≡ 4294967295) × All MayReadOn these × (length these ≤ max_reads))
    ⊎ (StopsBetween max_reads these refusal × (len < 4294967295))

-- all that was read was appended to a text, and on Ok its number of bytes is returned
abbrev pub Adds : {R : Type 0} → (R → List OneRead) → (R → Option (List ℕ)) → ℕ → R → R → Text → Text
    → Result ℕ Refusal → Type 0
Adds history remaining max_reads reader reader' text text' result =
    (these : List OneRead) × MakesReads history remaining reader these reader'
    × (text'.bytes ≡ text.bytes ++ given these) × IfOk result (λ n. n ≡ length (given these))
    × Fills max_reads these result (length text'.bytes)
