-- Which words ask the program to decode.
use Rattle.std.specs.Prelude.{ℕ, ◌≡◌, List, [], ◌∷◌, codes}

-- the words that ask to decode: only `decode`
abbrev pub AskToDecode : List (List ℕ) → Type 0
AskToDecode [] = ⊥
AskToDecode (word ∷ []) = word ≡ codes "decode"
AskToDecode (word ∷ other ∷ more) = ⊥
