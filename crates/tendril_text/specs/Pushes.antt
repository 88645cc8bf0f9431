-- What a push does to a text, and its errors.
use Rattle.std.specs.Prelude.{ℕ, ◌≡◌, ◌≤◌, ◌+◌, ◌++◌, List, length, max, replicate, Option, Result}
use Rattle.tendril_errors.specs.declared.refusal.Refusal.{Refusal}
use Rattle.tendril_errors.specs.Outcomes.{LengthMust, BytesMust, CharMust, MemoryMay, Outcome}
use Rattle.tendril_storage.specs.Texts.{Text}

-- the bytes y are appended to a text, which then has the bytes z
pub record Pushes (must : Option Refusal → Type 0) (y z : List ℕ) (old : Text) (result : Result (Unit {0}) Refusal)
    (new : Text) : Type 0 where
  pub outcome : Outcome must (MemoryMay (length z)) (λ _ t. t.bytes ≡ z) old result new
  pub grows : length new.bytes ≤ length old.bytes + length y + 4
  pub copied : new.copied ≤ max old.copied (length old.bytes) + length y + 4

-- bytes that are valid are appended by the format's join
abbrev pub Joins : (List ℕ → List ℕ → List ℕ) → List ℕ → Text → Result (Unit {0}) Refusal → Text → Type 0
Joins join y old result new = Pushes (LengthMust (length (join old.bytes y))) y (join old.bytes y) old result new

-- bytes are appended by the format's join, if they are valid
abbrev pub JoinsValid : (List ℕ → Type 0) → (List ℕ → List ℕ → List ℕ) → List ℕ → Text → Result (Unit {0}) Refusal
    → Text → Type 0
JoinsValid valid join y old result new =
    Pushes (BytesMust valid y (length (join old.bytes y))) y (join old.bytes y) old result new

-- a character is appended by the format's join, if the format can represent it
abbrev pub JoinsChar : (ℕ → Type 0) → (ℕ → List ℕ) → (List ℕ → List ℕ → List ℕ) → ℕ → Text → Result (Unit {0}) Refusal
    → Text → Type 0
JoinsChar encodes encoding join c old result new =
    Pushes (CharMust encodes c (length (join old.bytes (encoding c)))) (encoding c)
    (join old.bytes (encoding c)) old result new

-- `count` zeros are appended to a text. The lengths are stated with `count`, not with the list of zeros, which may be
-- long.
pub record PushesZeros (count : ℕ) (old : Text) (result : Result (Unit {0}) Refusal) (new : Text) : Type 0 where
  pub outcome : Outcome (LengthMust (length old.bytes + count)) (MemoryMay (length old.bytes + count))
      (λ _ t. t.bytes ≡ old.bytes ++ replicate count 0) old result new
  pub copied : new.copied ≤ max old.copied (length old.bytes) + count + 4

-- capacity for `more` further bytes is reserved
pub record Reserves (more : ℕ) (old : Text) (result : Result (Unit {0}) Refusal) (new : Text) : Type 0 where
  pub outcome : Outcome (LengthMust (length old.bytes + more)) (MemoryMay (length old.bytes + more))
      (λ _ t. t.bytes ≡ old.bytes) old result new
  pub copied : new.copied ≤ max old.copied (length old.bytes)
