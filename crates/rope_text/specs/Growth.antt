-- Ropes that grow.
use Rattle.std.specs.Prelude.{◌≡◌, ℕ, ◌<◌, ◌≤◌, ◌+◌, List, ◌++◌, length, Option, Result, Ok, Err}
use Rattle.tendril_errors.specs.declared.refusal.Refusal.{Refusal}
use Rattle.tendril_errors.specs.declared.refusal.Refusal.TheVariants.{TooLong, Memory}
use Rattle.tendril_errors.specs.Outcomes.{First, NoneMust, Outcome}
use Rattle.rope_text.specs.declared.rope.TheConstants.{MAX_TOTAL}
use Rattle.rope_text.specs.Ropes.{RopeText}
use Rattle.tendril_text.specs.Texts.{Text}

-- the same result, but an error doesn't return the argument
abbrev pub without_back : {R X : Type 0} → Result R (Refusal × X) → Result R Refusal
without_back (Ok r) = Ok r
without_back (Err e) = Err e.0

-- the required errors of a rope that would have `count` bytes
abbrev pub TotalMust : ℕ → Option Refusal → Type 0
TotalMust count must = First (count ≤ MAX_TOTAL) TooLong NoneMust must

-- Memory is possible if `count` bytes are added, at least one: the list of pieces may have to grow
abbrev pub RoomMay : ℕ → Refusal → Type 0
RoomMay count r = (r ≡ Memory) × (0 < count)

-- a rope with more bytes and pieces at its end
pub record IsLonger (old : RopeText) (more : List ℕ) (parts : List Text) (new : RopeText) : Type 0 where
  pub bytes : new.bytes ≡ old.bytes ++ more
  pub pieces : new.pieces ≡ old.pieces ++ parts

-- bytes are appended to a rope, in these pieces
abbrev pub Grows : List ℕ → List Text → RopeText → Result (Unit {0}) Refusal → RopeText → Type 0
Grows more parts old result new =
    Outcome (TotalMust (length old.bytes + length more)) (RoomMay (length more))
    (λ _ r. IsLonger old more parts r) old result new
