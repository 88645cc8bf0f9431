-- Clones, slices, pops and splits of a text.
use Rattle.std.specs.Prelude.{ℕ, ◌≡◌, ◌<◌, ◌≤◌, List, length, take, drop, Option, Result, Ok, Err}
use Rattle.tendril_errors.specs.declared.refusal.Refusal.{Refusal}
use Rattle.tendril_errors.specs.declared.refusal.Refusal.TheVariants.{ValidationFailed}
use Rattle.tendril_errors.specs.declared.subtendril_error.SubtendrilError.{SubtendrilError}
use Rattle.tendril_errors.specs.Errors.{refusal_of}
use Rattle.tendril_errors.specs.Outcomes.{
  NoneMust,
  First,
  CutMust,
  SliceMust,
  PopMust,
  NoneMay,
  CountMay,
  Gives,
  Outcome,
}
use Rattle.tendril_storage.specs.Partings.{BothLong, IsParted, TakesFront}
use Rattle.tendril_storage.specs.Texts.{Text, ShareCost, PopCost}

-- a result with the `Refusal` of the same name as its error
abbrev pub by_name : {R : Type 0} → Result R SubtendrilError → Result R Refusal
by_name (Ok r) = Ok r
by_name (Err e) = Err (refusal_of e)

-- a text of the bytes b that shares them
pub record IsShareOf (b : List ℕ) (t : Text) : Type 0 where
  pub bytes : t.bytes ≡ b
  pub copied : ShareCost t

-- a text of the bytes b is cloned
abbrev pub Clones : List ℕ → Result Text Refusal → Type 0
Clones b result = Gives NoneMust (CountMay (length b)) (IsShareOf b) result

-- the slice of b of `count` bytes from the offset on, which is there and valid
abbrev pub Slices : List ℕ → ℕ → ℕ → Result Text SubtendrilError → Type 0
Slices b offset count result = Gives NoneMust (CountMay count) (IsShareOf (take count (drop offset b))) (by_name result)

-- the slice of b of `count` bytes from the offset on, if it is there and valid
abbrev pub SlicesValid : (List ℕ → Type 0) → List ℕ → ℕ → ℕ → Result Text SubtendrilError → Type 0
SlicesValid valid b offset count result =
    Gives (SliceMust valid b offset count) (CountMay count) (IsShareOf (take count (drop offset b))) (by_name result)

-- a text after a pop that leaves the bytes b
pub record IsRestOf (old : Text) (b : List ℕ) (new : Text) : Type 0 where
  pub bytes : new.bytes ≡ b
  pub copied : PopCost old new

-- `count` bytes are popped off a text, if they are there and the remainder is valid
abbrev pub PopsValid : (List ℕ → Type 0) → ℕ → List ℕ → Text → Result (Unit {0}) SubtendrilError → Text → Type 0
PopsValid valid count rest old result new =
    Outcome (PopMust valid old.bytes count rest) NoneMay (λ _ t. IsRestOf old rest t) old (by_name result) new

-- a text after all bytes from `len` on were dropped; with no more than `len` bytes it is unchanged
pub record IsTruncated (len : ℕ) (old new : Text) : Type 0 where
  pub bytes : new.bytes ≡ take len old.bytes
  pub copied : len < length old.bytes → PopCost old new
  pub short : length old.bytes ≤ len → new ≡ old

-- the required error for a text of which the bytes `front` are left
abbrev pub FrontMust : (List ℕ → Type 0) → List ℕ → Option Refusal → Type 0
FrontMust valid front must = First (valid front) ValidationFailed NoneMust must

-- all bytes from `len` on are dropped, if those before them are valid
abbrev pub Truncates : (List ℕ → Type 0) → ℕ → Text → Result (Unit {0}) SubtendrilError → Text → Type 0
Truncates valid len old result new =
    Outcome (FrontMust valid (take len old.bytes)) NoneMay (λ _ t. IsTruncated len old t) old (by_name result) new

-- the first `count` bytes are split off a text; they are there, and both sides are valid
abbrev pub Splits : ℕ → Text → Result Text SubtendrilError → Text → Type 0
Splits count old result new = TakesFront count old (by_name result) new

-- the required error of a split of b after `count` bytes
abbrev pub SplitMust : (List ℕ → Type 0) → List ℕ → ℕ → Option Refusal → Type 0
SplitMust valid b count must =
    CutMust (count ≤ length b) (λ front. valid front × valid (drop count b)) (take count b) must

-- the first `count` bytes are split off a text, if they are there and both sides are valid
abbrev pub SplitsValid : (List ℕ → Type 0) → ℕ → Text → Result Text SubtendrilError → Text → Type 0
SplitsValid valid count old result new =
    Outcome (SplitMust valid old.bytes count) (BothLong count (length old.bytes)) (IsParted count old) old
    (by_name result) new
