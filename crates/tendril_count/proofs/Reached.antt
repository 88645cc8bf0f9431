-- Roles of references, and the blocks that lists of steps lead to.
use borrow.Author.Tests.{clash}
use Rattle.std.specs.Prelude.{⊤}
use Rattle.std.proofs.Common.{◌≡◌, ℕ, zero, suc, ◌+◌, ◌-◌, ◌%◌, ◌^◌, Bool, true, false, List, [], ◌∷◌, ◌++◌, length}
use Rattle.std.proofs.Common.{set, refl, sym, ◌∙◌, ap, subst, arith, eq-eqb, if◌then◌else◌, ◌==◌, ltb}
use mathlib.Core.Option.{some, some-injective, some-ne-none}
use lib.ListN.{get_elem?}
use Rattle.tendril_count.specs.Machine.{Holder, Ended, Reads, Writes, Surplus, Block, CountStep, Make, Add, Alone, Done}
use Rattle.tendril_count.specs.Machine.{Subtract, Free, Pass, has, without, holder_at, becomes, nothing, added}
use Rattle.tendril_count.specs.Machine.{subtracted, with_holder, add_by, alone_by, done_by, subtract_by, pass_by}
use Rattle.tendril_count.specs.Machine.{happens, run, held, is_held, IsLimit}
use Rattle.tendril_count.proofs.Totals.{changed}
use Rattle.tendril_count.proofs.Kept.{Kept, after_kept}
use Rattle.tendril_count.specs.Rule.{Role, Reader, role, roles, number, Threads, Any, Only, stays, all_stay, IsReached}
use Rattle.tendril_count.specs.Rule.{IsTurn}

pub found_at : (hs : List Holder) (k : ℕ) (r : Role) → get_elem? (roles hs) k ≡ some r → role (holder_at hs k) ≡ r
found_at [] k r is = absurd (some-ne-none r (sym is))
found_at (x ∷ hs) zero r is = some-injective (role x) r is
found_at (x ∷ hs) (suc k) r is = found_at hs k r is

pub set_is : (hs : List Holder) (k : ℕ) (h : Holder) → set (roles hs) k (role h) ≡ roles (becomes hs k h)
set_is [] k h = refl
set_is (x ∷ hs) zero h = refl
set_is (x ∷ hs) (suc k) h = ap (λ (l : List Role). role x ∷ l) (set_is hs k h)

pub one_more_role : (hs : List Holder) (h : Holder) → roles hs ++ role h ∷ [] ≡ roles (hs ++ h ∷ [])
one_more_role [] h = refl
one_more_role (x ∷ hs) h = ap (λ (l : List Role). role x ∷ l) (one_more_role hs h)

pub same_roles : (hs : List Holder) (k : ℕ) (h : Holder) → role (holder_at hs k) ≡ role h
    → roles hs ≡ roles (becomes hs k h)
same_roles [] k h is = refl
same_roles (x ∷ hs) zero h is = ap (λ (r : Role). r ∷ roles hs) is
same_roles (x ∷ hs) (suc k) h is = ap (λ (l : List Role). role x ∷ l) (same_roles hs k h is)

same_becomes : (hs : List Holder) (k : ℕ) (h : Holder) → holder_at hs k ≡ h → hs ≡ becomes hs k h
same_becomes [] k h is = refl
same_becomes (x ∷ hs) zero h is = ap (λ (y : Holder). y ∷ hs) is
same_becomes (x ∷ hs) (suc k) h is = ap (λ (l : List Holder). x ∷ l) (same_becomes hs k h is)

pub at_becomes : (hs : List Holder) (k : ℕ) (h : Holder) → is_held (holder_at hs k) ≡ 1 → holder_at (becomes hs k h) k
    ≡ h
at_becomes [] k h is = absurd (omega (arith, is))
at_becomes (x ∷ hs) zero h is = refl
at_becomes (x ∷ hs) (suc k) h is = at_becomes hs k h is

-- a reference that reads is on some thread
pub reads_on : (h : Holder) → role h ≡ Reader → (t : ℕ) × (h ≡ Reads t)
reads_on Ended is = absurd (omega (arith, ap number is))
reads_on (Reads t) is = (t, refl)
reads_on (Writes t) is = absurd (omega (arith, ap number is))
reads_on (Surplus t) is = absurd (omega (arith, ap number is))

run-append : (limit : ℕ) (steps : List CountStep) (s : CountStep) (b : Block) → run limit (steps ++ s ∷ []) b
    ≡ happens limit (run limit steps b) s
run-append limit [] s b = refl
run-append limit (x ∷ steps) s b = run-append limit steps s (happens limit b x)

all_stay-append : (steps : List CountStep) (s : CountStep) → all_stay steps ≡ true → stays s ≡ true
    → all_stay (steps ++ s ∷ []) ≡ true
all_stay-append [] s all one = ap (λ (y : Bool). if y then true else false) one
all_stay-append (x ∷ steps) s all one = go (stays x) all (λ rest. all_stay-append steps s rest one)
  where
    go : (y : Bool) → (if y then all_stay steps else false) ≡ true
        → (all_stay steps ≡ true → all_stay (steps ++ s ∷ []) ≡ true)
        → (if y then all_stay (steps ++ s ∷ []) else false) ≡ true
    go true rest goes = goes rest
    go false rest goes = rest

pub by_any : (limit : ℕ) (b : Block) → IsReached Any limit b → (s : CountStep) → IsReached Any limit (happens limit b s)
by_any limit b is s = (
  is.0,
  is.1 ++ s ∷ [],
  ap (λ (x : Block). happens limit x s) is.2
      ∙ sym (run-append limit is.1 s (happens limit nothing (Make is.0))),
)

pub reached_step : (whose : Threads) (limit : ℕ) (b : Block) → IsReached whose limit b → (s : CountStep)
    → stays s ≡ true → IsReached whose limit (happens limit b s)
reached_step Any limit b is s one = by_any limit b is s
reached_step (Only t) limit b is s one = (
  is.0 ++ s ∷ [],
  all_stay-append is.0 s is.1 one,
  ap (λ (x : Block). happens limit x s) is.2
      ∙ sym (run-append limit is.0 s (happens limit nothing (Make t))),
)

-- a block that one thread's steps lead to is one that any threads' steps lead to
pub by_some : (whose : Threads) (limit : ℕ) (b : Block) → IsReached whose limit b → IsReached Any limit b
by_some Any limit b is = is
by_some (Only t) limit b is = (t, is.0, is.2)

pub begun : (whose : Threads) (limit t : ℕ) → IsTurn whose t → IsReached whose limit (happens limit nothing (Make t))
begun Any limit t turn = (t, [], refl)
begun (Only thread) limit t turn = ([], refl, ap (λ (u : ℕ). happens limit nothing (Make u)) (sym turn))

pub reached_kept : (whose : Threads) (limit : ℕ) → IsLimit limit → (b : Block) → IsReached whose limit b → Kept limit b
reached_kept whose limit low b is = let any = by_some whose limit b is in
    subst (Kept limit) (sym any.2) (after_kept limit any.0 any.1 low)

-- a reference has ended or is on thread t
abbrev IsOn : ℕ → Holder → Type 0
IsOn t Ended = ⊤
IsOn t (Reads u) = t ≡ u
IsOn t (Writes u) = t ≡ u
IsOn t (Surplus u) = t ≡ u

abbrev AllOn : ℕ → List Holder → Type 0
AllOn t [] = ⊤
AllOn t (h ∷ hs) = IsOn t h × AllOn t hs

on_at : (t : ℕ) (hs : List Holder) (k : ℕ) → AllOn t hs → IsOn t (holder_at hs k)
on_at t [] k on = tt
on_at t (h ∷ hs) zero on = on.0
on_at t (h ∷ hs) (suc k) on = on_at t hs k on.1

on_becomes : (t : ℕ) (hs : List Holder) (k : ℕ) (x : Holder) → IsOn t x → AllOn t hs → AllOn t (becomes hs k x)
on_becomes t [] k x is on = tt
on_becomes t (h ∷ hs) zero x is on = (is, on.1)
on_becomes t (h ∷ hs) (suc k) x is on = (on.0, on_becomes t hs k x is on.1)

on_append : (t : ℕ) (hs : List Holder) (x : Holder) → IsOn t x → AllOn t hs → AllOn t (hs ++ x ∷ [])
on_append t [] x is on = (is, tt)
on_append t (h ∷ hs) x is on = (on.0, on_append t hs x is on.1)

abbrev IsOwn : ℕ → Block → Type 0
IsOwn t b = (b.made ≡ true) × AllOn t b.holders

module _ (t limit : ℕ) (b : Block) (own : IsOwn t b) where
  adds_on : (k : ℕ) (h : Holder) → IsOn t h → IsOwn t (add_by limit b k h)
  adds_on k Ended on = own
  adds_on k (Reads u) on = at (ltb b.word limit)
    where
      at : (y : Bool) → IsOwn t (added limit b k u y)
      at true = (own.0, on_append t b.holders (Reads u) on own.1)
      at false = (own.0, on_becomes t b.holders k (Surplus u) on own.1)
  adds_on k (Writes u) on = own
  adds_on k (Surplus u) on = own

  alone_on : (k : ℕ) (h : Holder) → IsOn t h → IsOwn t (alone_by b k h)
  alone_on k Ended on = own
  alone_on k (Reads u) on = at (b.word == 1)
    where
      at : (y : Bool) → IsOwn t (if y then with_holder b k (Writes u) else b)
      at true = (own.0, on_becomes t b.holders k (Writes u) on own.1)
      at false = own
  alone_on k (Writes u) on = own
  alone_on k (Surplus u) on = own

  done_on : (k : ℕ) (h : Holder) → IsOn t h → IsOwn t (done_by b k h)
  done_on k Ended on = own
  done_on k (Reads u) on = own
  done_on k (Writes u) on = (own.0, on_becomes t b.holders k (Reads u) on own.1)
  done_on k (Surplus u) on = own

  subtracts_on : (k : ℕ) (h : Holder) → IsOn t h → IsOwn t (subtract_by b k h)
  subtracts_on k Ended on = own
  subtracts_on k (Reads u) on = (own.0, on_becomes t b.holders k Ended tt own.1)
  subtracts_on k (Writes u) on = (own.0, on_becomes t b.holders k Ended tt own.1)
  subtracts_on k (Surplus u) on = (own.0, on_becomes t b.holders k (Reads u) on own.1)

  makes_on : (u : ℕ) (y : Bool) → b.made ≡ y
      → IsOwn t (if y then b else record { made = true; word = 1; holders = Reads u ∷ []; duties = []; frees = 0 })
  makes_on u true is = own
  makes_on u false is = absurd (clash (sym is ∙ own.0))

  frees_on : (u : ℕ) (y : Bool) → IsOwn t
      (if y then record {
        made = b.made;
        word = b.word;
        holders = b.holders;
        duties = without u b.duties;
        frees =
            b.frees + 1;
      } else b)
  frees_on u true = own
  frees_on u false = own

  own_step : (s : CountStep) → stays s ≡ true → IsOwn t (happens limit b s)
  own_step (Make u) stay = makes_on u b.made refl
  own_step (Add k) stay = adds_on k (holder_at b.holders k) (on_at t b.holders k own.1)
  own_step (Alone k) stay = alone_on k (holder_at b.holders k) (on_at t b.holders k own.1)
  own_step (Done k) stay = done_on k (holder_at b.holders k) (on_at t b.holders k own.1)
  own_step (Subtract k) stay = subtracts_on k (holder_at b.holders k) (on_at t b.holders k own.1)
  own_step (Free u) stay = frees_on u (has u b.duties)
  own_step (Pass k u) stay = absurd (clash stay)

own_run : (t limit : ℕ) (steps : List CountStep) (b : Block) → IsOwn t b → all_stay steps ≡ true
    → IsOwn t (run limit steps b)
own_run t limit [] b own all = own
own_run t limit (s ∷ steps) b own all =
    go (stays s) refl all (λ is rest. own_run t limit steps (happens limit b s) (own_step t limit b own s is) rest)
  where
    go : (y : Bool) → stays s ≡ y → (if y then all_stay steps else false) ≡ true
        → (stays s ≡ true → all_stay steps ≡ true → IsOwn t (run limit steps (happens limit b s)))
        → IsOwn t (run limit steps (happens limit b s))
    go true is rest goes = goes is rest
    go false is rest goes = absurd (clash rest)

-- after steps of one thread all references are on it
reached_own : (t limit : ℕ) (b : Block) → IsReached (Only t) limit b → IsOwn t b
reached_own t limit b is = subst (IsOwn t) (sym is.2)
    (own_run t limit is.0 (happens limit nothing (Make t)) (refl, (refl, tt)) is.1)

-- a reference passes to the thread that takes its next step
pub reached_pass : (whose : Threads) (limit : ℕ) (b : Block) (k t u : ℕ) → IsTurn whose u → IsReached whose limit b
    → holder_at b.holders k ≡ Reads t → IsReached whose limit (with_holder b k (Reads u))
reached_pass Any limit b k t u turn is at = subst (IsReached Any limit) (ap (pass_by b k u) at)
    (by_any limit b is (Pass k u))
reached_pass (Only thread) limit b k t u turn is at =
    let own = on_at thread b.holders k (reached_own thread limit b is).1 in
    let mine : thread ≡ t = subst (IsOn thread) at own in
    subst (IsReached (Only thread) limit)
    (ap (λ (hs : List Holder). record {
      made = b.made;
      word = b.word;
      holders = hs;
      duties = b.duties;
      frees =
          b.frees;
    }) (same_becomes b.holders k (Reads u) (at ∙ ap Reads (sym mine ∙ turn)))) is

no_duties : (ts : List ℕ) → length ts ≡ 0 → ts ≡ []
no_duties [] e = refl
no_duties (t ∷ ts) e = absurd (omega (arith, e))

-- a `Subtract` that finds 1 ends the last reference, and its thread has the duty
pub last_one : (whose : Threads) (limit : ℕ) → IsLimit limit → (b : Block) (k t : ℕ) (h : Holder)
    → IsReached whose limit b → holder_at b.holders k ≡ h → is_held h ≡ 1 → b.word ≡ 1
    → (held (subtracted b k Ended t) ≡ 0) × (b.frees ≡ 0) × ((if b.word == 1 then t ∷ b.duties else b.duties) ≡ t ∷ [])
last_one whose limit low b k t h is at live one =
    let kept = reached_kept whose limit low b is in let less = changed is_held b.holders k Ended h at live in
    let before = kept.before (omega (arith, less, live)) in (
      omega (arith, less, live, kept.word, one),
      omega (arith, before),
      ap (λ (y : Bool). if y then t ∷ b.duties else b.duties) (eq-eqb b.word 1 one)
          ∙ ap (λ (ts : List ℕ). t ∷ ts) (no_duties b.duties (omega (arith, before))),
    )

-- the block after the `Subtract` of a writer: it has no references, and thread t has the duty
abbrev pub IsGivenUp : ℕ → Block → ℕ → Type 0
IsGivenUp limit b t = IsReached Any limit b × (b.word ≡ 0) × ((held b ≡ 0) × (b.frees ≡ 0) × (b.duties ≡ t ∷ []))

pub given_up : (whose : Threads) (limit : ℕ) → IsLimit limit → (b : Block) (k t : ℕ) → IsReached whose limit b
    → holder_at b.holders k ≡ Writes t → b.word ≡ 1 → IsGivenUp limit (subtracted b k Ended t) t
given_up whose limit low b k t is at one = (
  subst (IsReached Any limit) (ap (subtract_by b k) at) (by_any limit b (by_some whose limit b is) (Subtract k)),
  ap (λ (n : ℕ). (n + (2 ^ 64 - 1)) % 2 ^ 64) one,
  last_one whose limit low b k t (Writes t) is at refl one,
)

-- the block was freed
abbrev pub IsFreed : ℕ → Block → Type 0
IsFreed limit b = IsReached Any limit b × (b.frees ≡ 1) × (b.duties ≡ [])

abbrev pub freed : Block → Block
freed b = record { made = b.made; word = b.word; holders = b.holders; duties = []; frees = b.frees + 1 }

pub is_freed : (limit : ℕ) (b : Block) (t : ℕ) → IsGivenUp limit b t → IsFreed limit (freed b)
is_freed limit b t is =
    let by : Bool → List ℕ → Block =
    λ y ts. if y then record {
      made = b.made;
      word = b.word;
      holders = b.holders;
      duties = ts;
      frees =
          b.frees + 1;
    } else b in
    let mine : (t == t) ≡ true = eq-eqb t t refl in
    let step : happens limit b (Free t) ≡ freed b = ap (λ (ts : List ℕ). by (has t ts) (without t ts)) is.2.2
    ∙ ap (λ (y : Bool). by (if y then true else false) (if y then [] else t ∷ [])) mine in
    (subst (IsReached Any limit) step (by_any limit b is.0 (Free t)), omega (arith, is.2.1), refl)
