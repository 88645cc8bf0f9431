-- How a call ends: which errors are required, which are permitted, and what holds on success.
use Rattle.std.specs.Prelude.{ℕ, ◌≡◌, ◌<◌, ◌≤◌, ◌+◌, ◌⊎◌, List, length, take, drop, Option, Some, None, Result, Ok, Err}
use Rattle.tendril_errors.specs.declared.limits.TheConstants.{INLINE_LEN, MAX_LEN}
use Rattle.tendril_errors.specs.declared.refusal.Refusal.{Refusal}
use Rattle.tendril_errors.specs.declared.refusal.Refusal.TheVariants.{
  TooLong,
  Memory,
  Count,
  Invalid,
  OutOfBounds,
  ValidationFailed,
  NotInFormat,
}

-- Required errors. A predicate `must` holds of Some r if a call must return the error r, of None if it must return
-- none.

-- no error is required
abbrev pub NoneMust : Option Refusal → Type 0
NoneMust None = Unit {0}
NoneMust (Some r) = ⊥

-- this error if the condition fails, else as `rest` says
abbrev pub First : Type 0 → Refusal → (Option Refusal → Type 0) → Option Refusal → Type 0
First condition refusal rest None = condition × rest None
First condition refusal rest (Some r) = ((condition → ⊥) × (r ≡ refusal)) ⊎ (condition × rest (Some r))

-- for a text that would have `count` bytes
abbrev pub LengthMust : ℕ → Option Refusal → Type 0
LengthMust count must = First (count ≤ MAX_LEN) TooLong NoneMust must

-- for bytes y that must be valid
abbrev pub ValidMust : (List ℕ → Type 0) → List ℕ → Option Refusal → Type 0
ValidMust valid y must = First (valid y) Invalid NoneMust must

-- for bytes y that must be valid, in a text that would then have `count` bytes
abbrev pub BytesMust : (List ℕ → Type 0) → List ℕ → ℕ → Option Refusal → Type 0
BytesMust valid y count must = First (valid y) Invalid (LengthMust count) must

-- for a character c that is appended to a text, which would then have `count` bytes
abbrev pub CharMust : (ℕ → Type 0) → ℕ → ℕ → Option Refusal → Type 0
CharMust encodes c count must = First (encodes c) NotInFormat (LengthMust count) must

-- for a slice `cut` that must be within bounds (`there`) and valid
abbrev pub CutMust : Type 0 → (List ℕ → Type 0) → List ℕ → Option Refusal → Type 0
CutMust there valid cut must = First there OutOfBounds (First (valid cut) ValidationFailed NoneMust) must

-- for the slice of b of `count` bytes from `offset` on
abbrev pub SliceMust : (List ℕ → Type 0) → List ℕ → ℕ → ℕ → Option Refusal → Type 0
SliceMust valid b offset count must = CutMust (offset + count ≤ length b) valid (take count (drop offset b)) must

-- for `rest`, what a pop of `count` bytes leaves of b
abbrev pub PopMust : (List ℕ → Type 0) → List ℕ → ℕ → List ℕ → Option Refusal → Type 0
PopMust valid b count rest must = CutMust (count ≤ length b) valid rest must

-- Memory is permitted, for a text of `count` bytes that don't fit inline
abbrev pub MemoryMay : ℕ → Refusal → Type 0
MemoryMay count r = (r ≡ Memory) × (INLINE_LEN < count)

-- Count is permitted, if `count` bytes that don't fit inline are shared
abbrev pub CountMay : ℕ → Refusal → Type 0
CountMay count r = (r ≡ Count) × (INLINE_LEN < count)

-- no other error is permitted
abbrev pub NoneMay : Refusal → Type 0
NoneMay r = ⊥

-- a call returns the error r: it is required, or none is required and r is permitted
abbrev pub Refused : (Option Refusal → Type 0) → (Refusal → Type 0) → Refusal → Type 0
Refused must may r = must (Some r) ⊎ (must None × may r)

-- the result of a call that changes nothing
abbrev pub Gives : {R : Type 0} → (Option Refusal → Type 0) → (Refusal → Type 0) → (R → Type 0) → Result R Refusal
    → Type 0
Gives must may effect (Ok r) = must None × effect r
Gives must may effect (Err e) = Refused must may e

-- the result of a call and the state after it: an error and no change, or success and the effect
abbrev pub Outcome : {R X : Type 0} → (Option Refusal → Type 0) → (Refusal → Type 0) → (R → X → Type 0) → X
    → Result R Refusal → X → Type 0
Outcome must may effect old (Ok r) new = must None × effect r new
Outcome must may effect old (Err e) new = Refused must may e × (new ≡ old)
