-- What is written for an input that is decoded, and what an error leaves.
use Rattle.std.specs.Prelude.{
  ℕ,
  ◌≡◌,
  ◌≤◌,
  ◌⊎◌,
  List,
  [],
  ◌∷◌,
  ◌++◌,
  length,
  chars,
  All,
  IsUtf8,
  Option,
  IfSome,
  Bool,
  false,
}
use Rattle.std.specs.Io.KnownBytes.{Appends, Consumes, IsAtEnd}
use Rattle.tendril_errors.specs.declared.refusal.Refusal.{Refusal}
use Rattle.tendril_errors.specs.declared.refusal.Refusal.TheVariants.{Memory, SinkRefused}
use Rattle.tendril_lossy.specs.Lossy.{Told, characters}
use Rattle.tendril_stream.specs.Decodings.{Decoding}
use Rattle.tendril_stream.specs.Readings.{StopsBetween}
use Rattle.tendril_stream.specs.Reads.{OneRead, Gave, CameToEnd, MayReadOn, StopsWith, given}
use Rattle.tendril_stream.specs.Sinks.{Sent, Piece, Fault}
use Rattle.tendril_text.specs.Texts.{Text}
use Rattle.tendril_script.specs.Writing.{AppendsFront}
use Rattle.tendril_text.specs.TextLists.{no_text}

-- the maximal number of reads
abbrev pub most_reads : ℕ
most_reads = 1000000000

-- the sink returns Memory if there is no memory for a text, and no error for a decoding error
abbrev pub JoinRefused : Sent → Refusal → Type 0
JoinRefused (Piece t) refusal = refusal ≡ Memory
JoinRefused (Fault words) refusal = ⊥

-- a writer whose bytes are known got these characters, in UTF-8
pub record WritesText (characters : List ℕ) (before after : Option (List ℕ)) : Type 0 where
  pub bytes : List ℕ
  pub utf8 : IsUtf8 bytes
  pub spells : chars bytes ≡ characters
  pub appends : Appends before after bytes

-- a writer whose bytes are known got a prefix of the encoding of the first of these characters
pub record WritesFrontOfText (characters : List ℕ) (before after : Option (List ℕ)) : Type 0 where
  pub bytes : List ℕ
  pub rest : List ℕ
  pub utf8 : IsUtf8 bytes
  pub spells : chars bytes ++ rest ≡ characters
  pub front : AppendsFront before after bytes

-- Over a decoding, from the state `start`.
module _ {K : Type 0} (decoding : Decoding K) (start : K) where
  -- no bytes output nothing, and leave the state as it is
  pub record BeginsStream : Type 0 where
    pub out_none : decoding.out start [] ≡ []
    pub after_none : decoding.after start [] ≡ start

  -- the characters of the first bytes of a stream, while it may continue
  abbrev pub chars_so_far : List ℕ → List ℕ
  chars_so_far bytes = characters (decoding.out start bytes)

  -- the characters of a whole stream
  abbrev pub chars_of_all : List ℕ → List ℕ
  chars_of_all bytes = characters (decoding.out start bytes ++ decoding.ends (decoding.after start bytes))

  -- the writer got the decoding of all bytes that the reader had left, if these are known
  abbrev pub TranscodesAll : Option (List ℕ) → Option (List ℕ) → Option (List ℕ) → Type 0
  TranscodesAll input before after = IfSome input (λ bytes. WritesText (chars_of_all bytes) before after)

  -- the input was read to its end, in at most `max_reads` reads, and its decoding is written
  pub record Transcoded (max_reads : ℕ) (these : List OneRead) (before after : Option (List ℕ)) : Type 0 where
    pub writes : WritesText (chars_of_all (given these)) before after
    pub ends : StopsWith CameToEnd these
    pub within : length these ≤ max_reads

  -- what these reads output is written, while the stream may continue
  abbrev pub WritesSoFar : List OneRead → Option (List ℕ) → Option (List ℕ) → Type 0
  WritesSoFar these before after = WritesText (chars_so_far (given these)) before after

  -- Reading stopped: no read was left, there was no memory for one that was left, or the last read failed. All that was
  -- read is decoded and written.
  abbrev pub InputStops : ℕ → List OneRead → Option (List ℕ) → Option (List ℕ) → Refusal → Type 0
  InputStops max_reads these before after refusal =
      WritesSoFar these before after × StopsBetween max_reads these refusal

  -- The decoder itself returned an error at the piece of the last read. What the reads before it output is written.
  pub record PieceStops (max_reads : ℕ) (these : List OneRead) (before after : Option (List ℕ)) (refusal : Refusal)
      : Type 0 where
    pub read : List OneRead
    pub piece : Text
    pub rest : List Told
    pub is : these ≡ read ++ Gave piece.bytes ∷ []
    pub may : decoding.may piece rest refusal
    pub writes : WritesSoFar read before after
    pub on : All MayReadOn these
    pub within : length these ≤ max_reads

  -- a prefix of the decoding of all reads is written
  abbrev pub WritesFront : List OneRead → Option (List ℕ) → Option (List ℕ) → Option (List ℕ) → Type 0
  WritesFront these left before after =
      (WritesFrontOfText (chars_so_far (given these)) before after × All MayReadOn these)
      ⊎ (WritesFrontOfText (chars_of_all (given these)) before after × IsAtEnd left × StopsWith CameToEnd these)

  -- the sink or the writer returned an error; which of them, and why, isn't specified
  abbrev pub WritingStops : ℕ → List OneRead → Option (List ℕ) → Option (List ℕ) → Option (List ℕ) → Refusal → Type 0
  WritingStops max_reads these left before after refusal =
      (refusal ≡ SinkRefused) × WritesFront these left before after × (length these ≤ max_reads)

  -- The decoder itself returned an error at the end of the stream. What all reads output is written, but not what the
  -- end adds.
  pub record EndStopsAfter (max_reads : ℕ) (these : List OneRead) (left before after : Option (List ℕ))
      (refusal : Refusal) : Type 0 where
    pub rest : List Told
    pub may : decoding.may no_text rest refusal
    pub writes : WritesSoFar these before after
    pub at_end : IsAtEnd left
    pub ends : StopsWith CameToEnd these
    pub within : length these ≤ max_reads

  -- what is written when an error ends the decoding of these reads
  abbrev pub TranscodeStops : ℕ → List OneRead → Option (List ℕ) → Option (List ℕ) → Option (List ℕ) → Refusal → Type 0
  TranscodeStops max_reads these left before after refusal =
      InputStops max_reads these before after refusal
      ⊎ (PieceStops max_reads these before after refusal
      ⊎ (WritingStops max_reads these left before after refusal
      ⊎ EndStopsAfter max_reads these left before after refusal))

  -- an error when the stream ends after these reads: of the sink or the writer, or of the decoder itself
  abbrev pub EndingStops : List OneRead → Option (List ℕ) → Option (List ℕ) → Refusal → Type 0
  EndingStops these before after refusal =
      ((refusal ≡ SinkRefused) × WritesFrontOfText (chars_of_all (given these)) before after)
      ⊎ ((rest : List Told) × decoding.may no_text rest refusal × WritesSoFar these before after)

  -- What these reads output is written. The decoder hasn't failed and is in the state that they lead to; its sink is
  -- empty.
  pub record IsReady (these : List OneRead) (before now : Option (List ℕ)) (held : K) (failed : Bool)
      (unwritten : List ℕ) : Type 0 where
    pub writes : WritesSoFar these before now
    pub keeps : held ≡ decoding.after start (given these)
    pub goes_on : failed ≡ false
    pub empty : unwritten ≡ []

  -- What an error leaves: some list of reads gave the bytes that the reader gave. The reader doesn't count its reads.
  pub record TranscodingHalts (max_reads : ℕ) (input before after : Option (List ℕ)) (refusal : Refusal) : Type 0 where
    pub these : List OneRead
    pub left : Option (List ℕ)
    pub gave : Consumes input left (given these)
    pub stops : TranscodeStops max_reads these left before after refusal
