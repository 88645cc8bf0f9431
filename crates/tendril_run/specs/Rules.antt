-- Rules: which error a call must return, which it may return, and its effect if it returns none.
use Rattle.std.specs.Prelude.{ℕ, ◌≡◌, List, length, Option, Some, Result, Ok, Err, IfOk}
use Rattle.tendril_errors.specs.Outcomes.{NoneMust, First, NoneMay, MemoryMay, Gives, Outcome}
use Rattle.tendril_errors.specs.declared.refusal.Refusal.{Refusal}
use Rattle.tendril_errors.specs.declared.refusal.Refusal.TheVariants.{NoSuchSlot}
use Rattle.tendril_lines.specs.declared.command.Reply.{Reply}
use Rattle.tendril_lines.specs.declared.command.Reply.TheVariants.{Refused}

-- a rule: the required error, the permitted ones, and the effect without an error: a value or state, or what holds then
pub record Rule {ℓ} (E : Type ℓ) : Type (1 ⊔ ℓ) where
  pub must : Option Refusal → Type 0
  pub may : Refusal → Type 0
  pub effect : E

-- the rule with these three fields
abbrev pub rule_with {ℓ} : {E : Type ℓ} → (Option Refusal → Type 0) → (Refusal → Type 0) → E → Rule E
rule_with must may effect = record { must = must; may = may; effect = effect }

-- the rule of a call that never returns an error
abbrev pub always {ℓ} : {E : Type ℓ} → E → Rule E
always effect = rule_with NoneMust NoneMay effect

-- the rule of a call that names a slot that isn't there
abbrev pub no_slot {ℓ} : {E : Type ℓ} → E → Rule E
no_slot effect = rule_with (λ must. must ≡ Some NoSuchSlot) NoneMay effect

-- the rule of a call that creates the text z; `must` takes its length
abbrev pub grown : (ℕ → Option Refusal → Type 0) → List ℕ → Rule (List ℕ)
grown must z = rule_with (must (length z)) (MemoryMay (length z)) z

-- `inner`, but unless the condition holds, this error is required before all others
abbrev pub first {ℓ} : {E : Type ℓ} → Type 0 → Refusal → Rule E → Rule E
first condition refusal inner = rule_with (First condition refusal inner.must) inner.may inner.effect

-- `inner`, with a function applied to its effect
abbrev pub with_effect {ℓ κ} : {E : Type ℓ} {F : Type κ} → (E → F) → Rule E → Rule F
with_effect leads inner = rule_with inner.must inner.may (leads inner.effect)

-- by the rule for the old state, a call returns an error and changes nothing, or has the rule's effect
abbrev pub Follows : {R X : Type 0} → (X → Rule (R → X → Type 0)) → X → Result R Refusal → X → Type 0
Follows by old result new = Outcome (by old).must (by old).may (by old).effect old result new

-- by the rule for the old state, a call returns an error and changes nothing, or leaves the state that the rule gives
abbrev pub Changes : {R X : Type 0} → (X → Rule X) → X → Result R Refusal → X → Type 0
Changes by old result new = Outcome (by old).must (by old).may (λ done new. new ≡ (by old).effect) old result new

-- by a rule, a call returns an error, or a value that `seen` maps to the rule's effect
abbrev pub GivesBy : {S X : Type 0} → Rule X → (S → X) → Result S Refusal → Type 0
GivesBy by seen result = Gives by.must by.may (λ s. seen s ≡ by.effect) result

-- a reply as a result: an error for `Refused`, else the reply
abbrev pub answer_of : Reply → Result Reply Refusal
answer_of (Refused r) = Err r
answer_of reply = Ok reply

-- if a call returns a reply, it isn't `Refused`
abbrev pub IsNoRefusal : Result Reply Refusal → Type 0
IsNoRefusal result = IfOk result (λ reply. answer_of reply ≡ Ok reply)
