-- What `recode` writes for its input, without `--strict`.
use Rattle.std.specs.Prelude.{ℕ, List, Option, IfSome, codes}
use Rattle.tendril_encoding.specs.States.{any, decoding_from}
use Rattle.tendril_encoding.specs.declared.kept.State.{State}
use Rattle.tendril_lossy.specs.Lossy.{characters}
use Rattle.tendril_script.specs.Endings.{EndedBy}
use Rattle.tendril_transcode.specs.Transcodings.{TranscodingHalts, WritesText, most_reads}

-- the program's name
abbrev pub recode_name : List ℕ
recode_name = codes "recode"

-- from the state at the start: the writer got the decoding of all bytes that the reader had left, if these are known
abbrev pub Recodes : State → Option (List ℕ) → Option (List ℕ) → Option (List ℕ) → Type 0
Recodes start input before after = IfSome input (λ bytes.
    WritesText (characters ((decoding_from start).decoded bytes)) before after)

-- an error of the decoding ended the program
abbrev pub RecodingEnded : State → Option (List ℕ) → Option (List ℕ) → Option (List ℕ) → Option (List ℕ)
    → Option (List ℕ) → Type 0
RecodingEnded start input before after told told' =
    EndedBy (TranscodingHalts any start most_reads input before after) recode_name told told'
