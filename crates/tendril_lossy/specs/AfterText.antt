-- What follows the longest valid prefix of bytes.
use Rattle.std.specs.Prelude.{ℕ, ◌+◌, ◌<◌, ◌≤◌, List, [], ◌∷◌, length, drop}
use Rattle.tendril_lossy.specs.Lossy.{Item, Bad, Cut, IsIncomplete, lossy}
use Rattle.tendril_lossy.specs.declared.search.Ending.{Ending}
use Rattle.tendril_lossy.specs.declared.search.Ending.TheVariants.{Whole, Broken, Open}

-- the items after n bytes of text, by what follows these
abbrev pub items_after : List ℕ → ℕ → Ending → List Item
items_after bs n Whole = []
items_after bs n (Broken k) = Bad k ∷ lossy (drop (n + k) bs)
items_after bs n Open = Cut (drop n bs) ∷ []

-- after n bytes the broken sequence of k bytes is there, and not empty; or a character's beginning, which is not empty
abbrev pub EndsWithin : List ℕ → ℕ → Ending → Type 0
EndsWithin bs n Whole = Unit {0}
EndsWithin bs n (Broken k) = (0 < k) × (n + k ≤ length bs)
EndsWithin bs n Open = (n < length bs) × IsIncomplete (drop n bs)
