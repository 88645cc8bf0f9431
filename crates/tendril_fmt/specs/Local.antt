-- The local tests: the sequences at the first and at the last byte of a slice decide whether it is valid.
use Rattle.std.specs.Prelude.{◌≡◌, ℕ, ◌-◌, ◌⊎◌, ◌↔◌, List, length, take, drop}
use Rattle.tendril_fmt.specs.declared.futf.Meaning.{Meaning}
use Rattle.tendril_fmt.specs.declared.futf.Meaning.TheVariants.{Whole, LeadSurrogate, TrailSurrogate, Prefix, Suffix}
use Rattle.tendril_fmt.specs.Classify.{Stands}
use Rattle.tendril_fmt.specs.Parts.{IsFrontOf, IsEndOf, IsSliceOf}

-- a whole character
abbrev pub IsWhole : Meaning → Type 0
IsWhole (Whole c) = Unit {0}
IsWhole (LeadSurrogate i) = ⊥
IsWhole (TrailSurrogate i) = ⊥
IsWhole (Prefix k) = ⊥
IsWhole Suffix = ⊥

-- a whole character or a surrogate
abbrev pub IsWholeOrSurrogate : Meaning → Type 0
IsWholeOrSurrogate (Whole c) = Unit {0}
IsWholeOrSurrogate (LeadSurrogate i) = Unit {0}
IsWholeOrSurrogate (TrailSurrogate i) = Unit {0}
IsWholeOrSurrogate (Prefix k) = ⊥
IsWholeOrSurrogate Suffix = ⊥

-- the byte at idx is part of a sequence whose meaning is accepted
abbrev pub StandsAccepted : (Meaning → Type 0) → List ℕ → ℕ → Type 0
StandsAccepted accepted bytes idx = (s : ℕ) × (n : ℕ) × (m : Meaning) × Stands bytes idx s n m × accepted m

-- the local test of a prefix: it is empty, or its last byte is part of an accepted sequence
abbrev pub PassesAsFront : (Meaning → Type 0) → List ℕ → Type 0
PassesAsFront accepted bytes = (length bytes ≡ 0) ⊎ StandsAccepted accepted bytes (length bytes - 1)

-- the local test of a suffix: it is empty, or its first byte is part of an accepted sequence
abbrev pub PassesAsEnd : (Meaning → Type 0) → List ℕ → Type 0
PassesAsEnd accepted bytes = (length bytes ≡ 0) ⊎ StandsAccepted accepted bytes 0

-- a prefix of a valid list is valid exactly if it passes the local test
abbrev pub FrontTestIsWhole : (List ℕ → Type 0) → (Meaning → Type 0) → Type 0
FrontTestIsWhole valid accepted =
    (part whole : List ℕ) → valid whole → IsFrontOf part whole → (valid part ↔ PassesAsFront accepted part)

-- a suffix of a valid list is valid exactly if it passes the local test
abbrev pub EndTestIsWhole : (List ℕ → Type 0) → (Meaning → Type 0) → Type 0
EndTestIsWhole valid accepted =
    (part whole : List ℕ) → valid whole → IsEndOf part whole → (valid part ↔ PassesAsEnd accepted part)

-- a slice of a valid list is valid exactly if it passes both local tests
abbrev pub SliceTestIsWhole : (List ℕ → Type 0) → (Meaning → Type 0) → Type 0
SliceTestIsWhole valid accepted =
    (part whole : List ℕ) → valid whole → IsSliceOf part whole
    → (valid part ↔ (PassesAsEnd accepted part × PassesAsFront accepted part))

-- the first four bytes, or all if there are fewer
abbrev pub first_four : List ℕ → List ℕ
first_four bytes = take 4 bytes

-- the last four bytes, or all if there are fewer
abbrev pub last_four : List ℕ → List ℕ
last_four bytes = drop (length bytes - 4) bytes

-- each local test depends on four bytes only
abbrev pub RestsOnFourBytes : (Meaning → Type 0) → Type 0
RestsOnFourBytes accepted =
    (bytes : List ℕ)
    → (PassesAsFront accepted bytes ↔ PassesAsFront accepted (last_four bytes))
    × (PassesAsEnd accepted bytes ↔ PassesAsEnd accepted (first_four bytes))
