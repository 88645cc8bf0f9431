-- What is printed to standard error, and what is written then.
use Rattle.std.specs.Prelude.{ℕ, List, [], ◌∷◌, ◌++◌, codes, Option}
use Rattle.tendril_script.specs.Endings.{RunEnded}
use Rattle.tendril_cli.specs.Sessions.{Answers}

-- the program's name
abbrev pub program_name : List ℕ
program_name = codes "tendril"

-- the line for words that ask for nothing
abbrev pub usage : List ℕ
usage = codes "usage: tendril run | tendril decode" ++ 10 ∷ []

-- an error ended a run: its line was printed to standard error, and what was written before stays
abbrev pub Ended : Option (List ℕ) → Option (List ℕ) → Option (List ℕ) → Option (List ℕ) → Option (List ℕ) → Type 0
Ended remaining before after told told' = RunEnded Answers program_name [] remaining before after told told'
