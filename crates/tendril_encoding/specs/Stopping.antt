-- Where reading through a new decoder stops.
use Rattle.std.specs.Prelude.{◌≡◌, ℕ, ◌⊎◌, Bool, false, List, Option, Some}
use Rattle.tendril_errors.specs.declared.refusal.Refusal.{Refusal}
use Rattle.tendril_lossy.specs.Lossy.{Told}
use Rattle.tendril_stream.specs.Compositions.{StandsAt, StreamStops}
use Rattle.tendril_stream.specs.Decodings.{Decoding}
use Rattle.tendril_stream.specs.Readings.{StopsBetween}
use Rattle.tendril_stream.specs.Reads.{OneRead, given}
use Rattle.tendril_stream.specs.Sinks.{Sent}

-- Between two reads: the decoder is returned, and has decoded all that was read. Or at an error of the decoder.
abbrev pub ReadingStops : {K S D : Type 0} → Decoding K → (S → Sent → S → Type 0)
    → (S → Sent → Refusal → S → Type 0) → (S → Refusal → Type 0) → (S → List Told → Type 0) → (D → S) → (D → K)
    → (D → Bool) → ℕ → List OneRead → Refusal → Option D → Type 0
ReadingStops {K} {S} {D} decoding takes refuses ends after inner held failed max_reads these refusal handed =
    (StopsBetween max_reads these refusal × ((d : D) × (handed ≡ Some d) × (failed d ≡ false)
    × StandsAt decoding after (inner d) (held d) (given these)))
    ⊎ StreamStops decoding takes refuses ends after inner failed max_reads these refusal handed
