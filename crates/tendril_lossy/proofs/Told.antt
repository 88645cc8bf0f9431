-- The characters of an output.
use Rattle.std.proofs.Common.{◌≡◌, ℕ, List, [], ◌∷◌, ◌++◌, map, refl, ap}
use Rattle.tendril_lossy.specs.Lossy.{Told, Char, Mark, characters}

pub characters-append : (told more : List Told) → characters (told ++ more) ≡ characters told ++ characters more
characters-append [] more = refl
characters-append (Char c ∷ told) more = ap (λ l. c ∷ l) (characters-append told more)
characters-append (Mark words ∷ told) more = characters-append told more

pub characters-map : (cs : List ℕ) → characters (map Char cs) ≡ cs
characters-map [] = refl
characters-map (c ∷ cs) = ap (λ l. c ∷ l) (characters-map cs)
