-- When a text to which a stream's decoding is appended returns an error.
use Rattle.std.specs.Prelude.{◌<◌, ℕ, List, ◌++◌, length, encode_utf8_all}
use Rattle.tendril_errors.specs.declared.limits.TheConstants.{INLINE_LEN}
use Rattle.tendril_errors.specs.declared.refusal.Refusal.{Refusal}
use Rattle.tendril_errors.specs.Outcomes.{LengthMust, MemoryMay, Refused}
use Rattle.tendril_lossy.specs.Lossy.{Told, characters}
use Rattle.tendril_stream.specs.Sinks.{Sent, Piece, Fault}

-- the error of appending what is sent to bytes: of a text TooLong or Memory, of an error none
abbrev pub AppendRefused : List ℕ → Sent → Refusal → Type 0
AppendRefused old (Piece t) r =
    Refused (LengthMust (length (old ++ t.bytes))) (MemoryMay (length (old ++ t.bytes))) r
AppendRefused old (Fault words) r = ⊥

-- the decoded text isn't stored inline: it has more than 8 bytes
abbrev pub IsOutgrown : List Told → Type 0
IsOutgrown told = INLINE_LEN < length (encode_utf8_all (characters told))
