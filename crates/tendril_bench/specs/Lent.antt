-- How reads into a borrowed sink end.
use Rattle.std.specs.Prelude.{◌≡◌, ℕ, ◌≤◌, Bool, true, false, List, length, All, Option}
use Rattle.std.specs.Io.KnownBytes.{IsAtEnd}
use Rattle.tendril.specs.Reads.{OneRead, CameToEnd, MayReadOn, StopsWith}

-- at the end, in at most `max_reads` reads, or after `max_reads` reads, with another one permitted
abbrev pub EndsBy : Bool → ℕ → List OneRead → Option (List ℕ) → Type 0
EndsBy true max_reads these left = StopsWith CameToEnd these × (length these ≤ max_reads) × IsAtEnd left
EndsBy false max_reads these left = All MayReadOn these × (length these ≡ max_reads)
