-- Texts created from the items of an iterator, or extended by them.
use Rattle.std.specs.Prelude.{
  ℕ,
  ◌≡◌,
  ◌≤◌,
  ◌<◌,
  ◌+◌,
  List,
  [],
  ◌∷◌,
  ◌++◌,
  Option,
  Some,
  None,
  Result,
  IfOk,
  MatchResult,
  flat_map,
  fold,
  length,
  max,
  sum_by,
  take,
}
use Rattle.std.specs.Iterator.{YieldsThen}
use Rattle.tendril_errors.specs.declared.limits.TheConstants.{MAX_LEN}
use Rattle.tendril_errors.specs.declared.refusal.Refusal.{Refusal}
use Rattle.tendril_errors.specs.Outcomes.{LengthMust, MemoryMay, Refused}
use Rattle.tendril_storage.specs.Texts.{Text}

-- the error of a text that would have `count` bytes
abbrev pub LengthRefused : ℕ → Refusal → Type 0
LengthRefused count r = Refused (LengthMust count) (MemoryMay count) r

module _ {A : Type 0} (bytes_of : A → List ℕ) where
  -- the bytes b and then those of each item
  abbrev pub appended : List ℕ → List A → List ℕ
  appended b xs = b ++ flat_map bytes_of xs

  -- the bytes b joined with those of each item, one after another
  abbrev pub joined : (List ℕ → List ℕ → List ℕ) → List ℕ → List A → List ℕ
  joined join b xs = fold (λ a x. join a (bytes_of x)) b xs

  -- the most bytes that are copied for the items: their own, and 4 more for each
  abbrev pub cost : List A → ℕ
  cost xs = sum_by (λ x. length (bytes_of x) + 4) xs

-- `steps s o t` says that a call of `next` of the iterator s may return o, and s becomes t. An item x has the bytes
-- `bytes_of x`. A text of the bytes b has the bytes `after b xs` after the items xs were appended.
module _ {S A : Type 0} (steps : S → Option A → S → Type 0) (bytes_of : A → List ℕ)
    (after : List ℕ → List A → List ℕ) where
  -- The items that are appended to a text of the bytes b. Each of them fits. After them the iterator returned None, or
  -- one more item, whose push fails. It wasn't called again, and became `last`.
  pub record Takes {R : Type 0} (iterator : S) (b : List ℕ) (taken : List A) (result : Result R Refusal)
      (last : S) : Type 0 where
    pub fits : (n : ℕ) → n < length taken → length (after b (take (n + 1) taken)) ≤ MAX_LEN
    pub ends : MatchResult result
        (λ _. YieldsThen steps iterator taken None last)
        (λ r. (x : A) × YieldsThen steps iterator taken (Some x) last
        × LengthRefused (length (after b (taken ++ x ∷ []))) r)

  -- a text has its old bytes, and then all items or exactly those before the one whose push fails
  pub record TakesItems (iterator : S) (old : Text) (result : Result (Unit {0}) Refusal) (new : Text)
      (last : S) : Type 0 where
    pub taken : List A
    pub takes : Takes iterator old.bytes taken result last
    pub bytes : new.bytes ≡ after old.bytes taken
    pub copied : new.copied ≤ max old.copied (length old.bytes) + cost bytes_of taken

-- `becomes items s` says that the iterator of the items may be s
module _ {I S A : Type 0} (becomes : I → S → Type 0) (steps : S → Option A → S → Type 0) (bytes_of : A → List ℕ)
    (after : List ℕ → List A → List ℕ) where
  pub record Extends (items : I) (old new : Text) (result : Result (Unit {0}) Refusal) : Type 0 where
    pub iterator : S
    pub made : becomes items iterator
    pub last : S
    pub extends : TakesItems steps bytes_of after iterator old result new last

  -- a text has all items, or the push of one of them fails
  pub record Makes (items : I) (result : Result Text Refusal) : Type 0 where
    pub iterator : S
    pub made : becomes items iterator
    pub last : S
    pub taken : List A
    pub takes : Takes steps bytes_of after iterator [] taken result last
    pub bytes : IfOk result (λ t. t.bytes ≡ after [] taken)
    pub copied : IfOk result (λ t. t.copied ≤ cost bytes_of taken)
