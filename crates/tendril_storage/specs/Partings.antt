-- A text split in two.
use Rattle.std.specs.Prelude.{ℕ, ◌≡◌, ◌<◌, ◌≤◌, ◌+◌, length, take, drop, Result, Option, MatchOption}
use Rattle.tendril_errors.specs.declared.limits.TheConstants.{INLINE_LEN}
use Rattle.tendril_errors.specs.declared.refusal.Refusal.{Refusal}
use Rattle.tendril_errors.specs.declared.refusal.Refusal.TheVariants.{Count}
use Rattle.tendril_errors.specs.Outcomes.{NoneMust, Outcome}
use Rattle.tendril_storage.specs.Texts.{Text, SplitCost}

-- Count is permitted: both sides of a text of `total` bytes that is split after `count` have more than 8
abbrev pub BothLong : ℕ → ℕ → Refusal → Type 0
BothLong count total r = (r ≡ Count) × (INLINE_LEN < count) × (INLINE_LEN + count < total)

-- the first `count` bytes of a text are returned as a text, and the remainder is left
pub record IsParted (count : ℕ) (old front rest : Text) : Type 0 where
  pub front_bytes : front.bytes ≡ take count old.bytes
  pub rest_bytes : rest.bytes ≡ drop count old.bytes
  pub copied : SplitCost old front rest

abbrev pub TakesFront : ℕ → Text → Result Text Refusal → Text → Type 0
TakesFront count old result new =
    Outcome NoneMust (BothLong count (length old.bytes)) (IsParted count old) old result new

-- the first `count` bytes, at most 8, are returned as a text, the next `skip` bytes are dropped, and more than 8 are
-- left
pub record IsFewTaken (count skip : ℕ) (old front rest : Text) : Type 0 where
  pub few : count ≤ INLINE_LEN
  pub many : INLINE_LEN + (count + skip) < length old.bytes
  pub front_bytes : front.bytes ≡ take count old.bytes
  pub rest_bytes : rest.bytes ≡ drop (count + skip) old.bytes
  pub front_copied : front.copied ≡ count
  pub rest_copied : rest.copied ≡ old.copied

-- if `None` is returned, the text hasn't changed
abbrev pub TakesFew : ℕ → ℕ → Text → Option Text → Text → Type 0
TakesFew count skip old result new = MatchOption result (new ≡ old) (λ front. IsFewTaken count skip old front new)
