-- What is printed to standard error, and what is written then.
use Rattle.std.specs.Prelude.{ℕ, List, [], ◌∷◌, ◌++◌, codes, Option}
use Rattle.tendril_script.specs.Endings.{RunEnded}
use Rattle.rope_cli.specs.RopeSessions.{RopeAnswers}
use Rattle.rope_run.specs.RopeCells.{no_cells}

-- the program's name
abbrev pub rope_program_name : List ℕ
rope_program_name = codes "rope"

-- the line for words that ask for nothing
abbrev pub rope_usage : List ℕ
rope_usage = codes "usage: rope run" ++ 10 ∷ []

-- an error ended the program: its line was printed to standard error, and what was written before stays
abbrev pub RopesEnded : Option (List ℕ) → Option (List ℕ) → Option (List ℕ) → Option (List ℕ) → Option (List ℕ)
    → Type 0
RopesEnded remaining before after told told' =
    RunEnded RopeAnswers rope_program_name no_cells remaining before after told told'
