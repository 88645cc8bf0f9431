-- What a failed write leaves, and the line of an error.
use Rattle.std.specs.Prelude.{ℕ, ◌≡◌, List, [], ◌∷◌, ◌++◌, codes, Option}
use Rattle.std.specs.Io.KnownBytes.{Appends}
use Rattle.tendril_errors.specs.Refusals.{refusal_text}
use Rattle.tendril_errors.specs.declared.refusal.Refusal.{Refusal}

-- what a failed write leaves: a writer whose bytes are known got a prefix of these bytes
pub record AppendsFront (before after : Option (List ℕ)) (bytes : List ℕ) : Type 0 where
  pub taken : List ℕ
  pub rest : List ℕ
  pub splits : bytes ≡ taken ++ rest
  pub appends : Appends before after taken

-- the line that a program with this name prints for an error that ends it
abbrev pub complaint : List ℕ → Refusal → List ℕ
complaint program refusal = program ++ codes ": refused " ++ refusal_text refusal ++ 10 ∷ []
