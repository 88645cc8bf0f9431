-- Prefixes, suffixes and slices of a list.
use Rattle.std.specs.Prelude.{◌≡◌, ℕ, List, ◌++◌}

-- `part` is a prefix of `whole`
abbrev pub IsFrontOf : List ℕ → List ℕ → Type 0
IsFrontOf part whole = (after : List ℕ) × (whole ≡ part ++ after)

-- `part` is a suffix of `whole`
abbrev pub IsEndOf : List ℕ → List ℕ → Type 0
IsEndOf part whole = (before : List ℕ) × (whole ≡ before ++ part)

-- `part` is a slice of `whole`
abbrev pub IsSliceOf : List ℕ → List ℕ → Type 0
IsSliceOf part whole = (before : List ℕ) × (after : List ℕ) × (whole ≡ before ++ (part ++ after))
