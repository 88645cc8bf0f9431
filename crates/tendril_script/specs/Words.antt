-- What a program's words ask for.
use Rattle.std.specs.Prelude.{ℕ, ◌≡◌, List, [], ◌∷◌, codes}

-- the words that ask for a run: none, or `run`
abbrev pub AskToRun : List (List ℕ) → Type 0
AskToRun [] = Unit {0}
AskToRun (word ∷ []) = word ≡ codes "run"
AskToRun (word ∷ other ∷ more) = ⊥
