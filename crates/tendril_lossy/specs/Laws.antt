-- Laws of lossy decoding.
use Rattle.std.specs.Prelude.{◌≡◌, ℕ, ◌↔◌, List, [], ◌++◌, map, chars, codes}
use Rattle.tendril_lossy.specs.Completions.{CompletesTo, BreaksAt, StillOpen}
use Rattle.tendril_lossy.specs.Lossy.{Item, Told, Char, IsLossy, lossy, due, due_open, kept, replaced}

-- `lossy` returns the items of Unicode's practice, and no other list is `IsLossy`
abbrev pub ItemsAreLossy : Type 0
ItemsAreLossy = (bs : List ℕ) (items : List Item) → IsLossy bs items ↔ (items ≡ lossy bs)

-- a decoder that has sent `due_open b`, and keeps `kept b`, continues with p as if it had read b and p at once
abbrev pub GoesOn : Type 0
GoesOn = (b p : List ℕ)
    → (due_open (b ++ p) ≡ due_open b ++ due_open (kept b ++ p)) × (kept (b ++ p) ≡ kept (kept b ++ p))
    × (due (b ++ p) ≡ due_open b ++ due (kept b ++ p))

-- the output of the bytes k and the input is `told`, then the output of `rest`, whose cut-off end is kept
abbrev Tells : List ℕ → List ℕ → List Told → List ℕ → Type 0
Tells k input told rest = (due_open (k ++ input) ≡ told ++ due_open rest) × (kept (k ++ input) ≡ kept rest)

-- a decoder that completes its kept bytes k continues with the remaining input
pub record Resumes : Type 0 where
  pub text : (k input t rest : List ℕ) → CompletesTo k input t rest → Tells k input (map Char (chars t)) rest
  pub broken : (k input b rest : List ℕ) → BreaksAt k input b rest
      → Tells k input (replaced (codes "invalid byte sequence")) rest
  pub unfinished : (k input held : List ℕ) → StillOpen k input held
      → (due_open (k ++ input) ≡ []) × (kept (k ++ input) ≡ held)
