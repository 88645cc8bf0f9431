-- Totals over the references of a block, when one of them changes, and the count one up and one down.
use Rattle.std.proofs.Common.{◌≡◌, ◌⊎◌, inl, inr, ⊎_elim, ℕ, zero, suc, ◌+◌, ◌-◌, ◌%◌, ◌^◌, ◌<◌, ◌≤◌, Bool, true, false}
use Rattle.std.proofs.Common.{List, [], ◌∷◌, ◌++◌, length, refl, ◌∙◌, ap, subst, arith, if◌then◌else◌, ◌==◌}
use borrow.Author.Tests.{clash}
use Rattle.std.proofs.Math.Nat.{mod-eq_of_lt, add-mod_right}
use Rattle.tendril_count.specs.Machine.{Holder, Ended, Reads, Writes, Surplus, holder_at, becomes, without, has}
use Rattle.tendril_count.specs.Machine.{is_held, is_surplus, total}

abbrev pub is_writer : Holder → ℕ
is_writer Ended = 0
is_writer (Reads t) = 0
is_writer (Writes t) = 1
is_writer (Surplus t) = 0

moved : (f : Holder → ℕ) (hs : List Holder) (k : ℕ) (x : Holder) → is_held (holder_at hs k) ≡ 1
    → total f (becomes hs k x) + f (holder_at hs k) ≡ total f hs + f x
moved f [] k x live = omega (arith, live)
moved f (h ∷ hs) zero x live = omega arith
moved f (h ∷ hs) (suc k) x live = omega (arith, moved f hs k x live)

-- `moved`, for a known reference h
pub changed : (f : Holder → ℕ) (hs : List Holder) (k : ℕ) (x h : Holder) → holder_at hs k ≡ h → is_held h ≡ 1
    → total f (becomes hs k x) + f h ≡ total f hs + f x
changed f hs k x h is live = subst (λ y. total f (becomes hs k x) + f y ≡ total f hs + f x) is
    (moved f hs k x (ap is_held is ∙ live))

pub joined : (f : Holder → ℕ) (hs : List Holder) (x : Holder) → total f (hs ++ x ∷ []) ≡ total f hs + f x
joined f [] x = omega arith
joined f (h ∷ hs) x = omega (arith, joined f hs x)

one_of : (h : Holder) → is_surplus h ≤ is_held h
one_of Ended = omega arith
one_of (Reads t) = omega arith
one_of (Writes t) = omega arith
one_of (Surplus t) = omega arith

pub no_more : (hs : List Holder) → total is_surplus hs ≤ total is_held hs
no_more [] = omega arith
no_more (h ∷ hs) = omega (arith, no_more hs, one_of h)

-- a reference that exists is counted
pub counts_at : (f : Holder → ℕ) (hs : List Holder) (k : ℕ) (h : Holder) → holder_at hs k ≡ h → is_held h ≡ 1
    → f h ≤ total f hs
counts_at f [] k h is live = omega (arith, ap is_held is, live)
counts_at f (x ∷ hs) zero h is live = omega (arith, ap f is)
counts_at f (x ∷ hs) (suc k) h is live = omega (arith, counts_at f hs k h is live)

-- one entry is removed
pub dropped : (t : ℕ) (ts : List ℕ) → has t ts ≡ true → length (without t ts) + 1 ≡ length ts
dropped t [] e = absurd (clash e)
dropped t (x ∷ xs) e = go (x == t) (dropped t xs) e
  where
    go : (y : Bool) → (has t xs ≡ true → length (without t xs) + 1 ≡ length xs) → (if y then true else has t xs)
        ≡ true → length (if y then xs else x ∷ without t xs) + 1 ≡ length (x ∷ xs)
    go true rest e = omega arith
    go false rest e = omega (arith, rest e)

pub fewer : (hs : List Holder) → total is_writer hs ≤ total is_held hs
fewer [] = omega arith
fewer (Ended ∷ hs) = omega (arith, fewer hs)
fewer (Reads t ∷ hs) = omega (arith, fewer hs)
fewer (Writes t ∷ hs) = omega (arith, fewer hs)
fewer (Surplus t ∷ hs) = omega (arith, fewer hs)

-- if one reference doesn't write, fewer write than exist
pub beside : (hs : List Holder) (k : ℕ) (h : Holder) → holder_at hs k ≡ h → is_held h ≡ 1 → is_writer h ≡ 0
    → total is_writer hs < total is_held hs
beside [] k h is live reads = omega (arith, ap is_held is, live)
beside (x ∷ hs) zero h is live reads = omega (arith, ap is_held is, ap is_writer is, live, reads, fewer hs)
beside (x ∷ hs) (suc k) h is live reads = omega (arith, beside hs k h is live reads, fewer (x ∷ hs), fewer (x ∷ []))

pub up : (n : ℕ) → n + 1 < 2 ^ 64 → (n + 1) % 2 ^ 64 ≡ n + 1
up n low = mod-eq_of_lt low

pub down : (n : ℕ) → 0 < n → n < 2 ^ 64 → (n + (2 ^ 64 - 1)) % 2 ^ 64 + 1 ≡ n
down zero pos low = omega (arith, pos)
down (suc n) pos low = omega (
  arith,
  ap (λ (m : ℕ). m % 2 ^ 64) (whole n),
  add-mod_right n
      (2 ^ 64),
  mod-eq_of_lt {n = n} {m = 2 ^ 64} (omega (arith, low)),
)
  where
    whole : (n : ℕ) → suc n + (2 ^ 64 - 1) ≡ n + 2 ^ 64
    whole n = omega arith

ended_or : (h : Holder) → (h ≡ Ended) ⊎ (is_held h ≡ 1)
ended_or Ended = inl refl
ended_or (Reads t) = inr refl
ended_or (Writes t) = inr refl
ended_or (Surplus t) = inr refl

none_in : (hs : List Holder) (j : ℕ) → total is_held hs ≤ 0 → holder_at hs j ≡ Ended
none_in hs j none = elim (ended_or (holder_at hs j)) [
  | inl is ↦ is
  | inr live ↦ absurd (lt_irr (omega (arith, none, live, counts_at is_held hs j (holder_at hs j) refl live)))
]
  where
    lt_irr : 0 < 0 → ⊥
    lt_irr p = omega (arith, p)

-- if only one reference exists, every other has ended
pub sole : (hs : List Holder) (j k t : ℕ) → holder_at hs k ≡ Writes t → total is_held hs ≤ 1
    → (j ≡ k) ⊎ (holder_at hs j ≡ Ended)
sole [] j k t is one = inr refl
sole (h ∷ hs) zero zero t is one = inl refl
sole (h ∷ hs) zero (suc k) t is one =
    inr (none_in (h ∷ []) zero (omega (arith, one, counts_at is_held hs k (Writes t) is refl)))
sole (h ∷ hs) (suc j) zero t is one = inr (none_in hs j (omega (arith, one, ap is_held is)))
sole (h ∷ hs) (suc j) (suc k) t is one =
    ⊎_elim (λ e. inl (ap suc e)) (λ e. inr e) (sole hs j k t is (omega (arith, one)))
