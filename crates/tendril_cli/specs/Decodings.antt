-- What `tendril decode` writes for its input.
use Rattle.std.specs.Prelude.{ℕ, ◌≡◌, ◌<◌, ◌≤◌, ◌⊎◌, List, [], ◌∷◌, ◌++◌, length, All, Option, IfSome}
use Rattle.std.specs.Io.KnownBytes.{Consumes, IsAtEnd}
use Rattle.tendril_errors.specs.declared.refusal.Refusal.{Refusal}
use Rattle.tendril_errors.specs.declared.refusal.Refusal.TheVariants.{Count, Io, Memory, SinkRefused, TooManyReads}
use Rattle.tendril_lossy.specs.Lossy.{characters, due, due_open}
use Rattle.tendril_stream.specs.Reads.{OneRead, Gave, HasFailed, CameToEnd, MayReadOn, StopsWith, given}
use Rattle.tendril_text.specs.Decoding.{LongPieceMay}
use Rattle.tendril_script.specs.Endings.{EndedBy}
use Rattle.tendril_transcode.specs.Transcodings.{WritesFrontOfText, WritesText}
use Rattle.tendril_cli.specs.Endings.{program_name}

-- the writer got the decoding of all bytes that the reader had left, if these are known
abbrev pub DecodesAll : Option (List ℕ) → Option (List ℕ) → Option (List ℕ) → Type 0
DecodesAll input before after = IfSome input (λ bytes. WritesText (characters (due bytes)) before after)

-- the decoding of these reads is written, but for the bytes that the decoder keeps for the next read
abbrev pub WritesAll : List OneRead → Option (List ℕ) → Option (List ℕ) → Type 0
WritesAll these before after = WritesText (characters (due_open (given these))) before after

-- the decoding of the reads before the last is written; of the last one's piece a text and the remainder couldn't be
-- shared, since the count was full
pub record WritesBefore (these : List OneRead) (before after : Option (List ℕ)) : Type 0 where
  pub read : List OneRead
  pub piece : List ℕ
  pub is : these ≡ read ++ Gave piece ∷ []
  pub long : LongPieceMay piece Count
  pub writes : WritesAll read before after

-- a prefix of the decoding of all reads is written
abbrev pub WritesUpTo : List OneRead → Option (List ℕ) → Option (List ℕ) → Option (List ℕ) → Type 0
WritesUpTo these left before after =
    (WritesFrontOfText (characters (due_open (given these))) before after × All MayReadOn these)
    ⊎ (WritesFrontOfText (characters (due (given these))) before after × IsAtEnd left × StopsWith CameToEnd these)

-- What is written when an error ends a decoding. TooManyReads: no read was left. Memory: there was none for a read that
-- was left. Io: the last read failed. Count: a piece couldn't be shared. SinkRefused: the cause isn't specified.
abbrev pub DecodeStops : ℕ → List OneRead → Option (List ℕ) → Option (List ℕ) → Option (List ℕ) → Refusal → Type 0
DecodeStops max_reads these left before after TooManyReads =
    WritesAll these before after × All MayReadOn these × (length these ≡ max_reads)
DecodeStops max_reads these left before after Memory =
    WritesAll these before after × All MayReadOn these × (length these < max_reads)
DecodeStops max_reads these left before after Io =
    WritesAll these before after × StopsWith HasFailed these × (length these ≤ max_reads)
DecodeStops max_reads these left before after Count =
    WritesBefore these before after × All MayReadOn these × (length these ≤ max_reads)
DecodeStops max_reads these left before after SinkRefused =
    WritesUpTo these left before after × (length these ≤ max_reads)
DecodeStops max_reads these left before after other = ⊥

-- What an error leaves: some list of reads gave the bytes that the reader gave. The reader doesn't count its reads.
pub record DecodingHalts (max_reads : ℕ) (input before after : Option (List ℕ)) (refusal : Refusal) : Type 0 where
  pub these : List OneRead
  pub left : Option (List ℕ)
  pub gave : Consumes input left (given these)
  pub stops : DecodeStops max_reads these left before after refusal

-- an error of a decoding ended the program
abbrev pub DecodingEnded : ℕ → Option (List ℕ) → Option (List ℕ) → Option (List ℕ) → Option (List ℕ) → Option (List ℕ)
    → Type 0
DecodingEnded max_reads input before after told told' =
    EndedBy (DecodingHalts max_reads input before after) program_name told told'
