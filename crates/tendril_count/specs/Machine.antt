-- A counted block as an abstract machine. A step is one access to the block's count of 64 bits (`word`) for one
-- reference (`Holder`). References are numbered in the order in which they were created, and no number is used again. A
-- block is read only through a reference.
use Rattle.std.specs.Prelude.{
  ◌≡◌,
  ◌⊎◌,
  ℕ,
  zero,
  suc,
  ◌+◌,
  ◌-◌,
  ◌*◌,
  ◌%◌,
  ◌^◌,
  ◌<◌,
  ◌≤◌,
  Bool,
  true,
  false,
  List,
  [],
  ◌∷◌,
  ◌++◌,
  length,
  if◌then◌else◌,
  ◌==◌,
}
use lib.Dec.{ltb}

-- the state of a reference: it has ended, or it is one of this thread
pub data Holder : Type 0 where
  Ended : Holder
  Reads : (thread : ℕ) → Holder
  Writes : (thread : ℕ) → Holder
  -- its `Add` found the limit, and it has a surplus reference, whose only step is `Subtract`
  Surplus : (thread : ℕ) → Holder

pub record Block : Type 0 where
  pub made : Bool
  pub word : ℕ
  pub holders : List Holder
  -- the threads that have the duty to free
  pub duties : List ℕ
  pub frees : ℕ

-- the steps: `Done` ends a write, and `Pass` moves a reference to another thread
pub data CountStep : Type 0 where
  Make : (thread : ℕ) → CountStep
  Add : (holder : ℕ) → CountStep
  Alone : (holder : ℕ) → CountStep
  Done : (holder : ℕ) → CountStep
  Subtract : (holder : ℕ) → CountStep
  Free : (thread : ℕ) → CountStep
  Pass : (holder thread : ℕ) → CountStep

abbrev pub holder_at : List Holder → ℕ → Holder
holder_at [] k = Ended
holder_at (h ∷ hs) zero = h
holder_at (h ∷ hs) (suc k) = holder_at hs k

-- the references, with x in place of reference k
abbrev pub becomes : List Holder → ℕ → Holder → List Holder
becomes [] k x = []
becomes (h ∷ hs) zero x = x ∷ hs
becomes (h ∷ hs) (suc k) x = h ∷ becomes hs k x

-- the list without its first entry that equals t
abbrev pub without : ℕ → List ℕ → List ℕ
without t [] = []
without t (x ∷ xs) = if x == t then xs else x ∷ without t xs

abbrev pub has : ℕ → List ℕ → Bool
has t [] = false
has t (x ∷ xs) = if x == t then true else has t xs

-- the state before `Make`
abbrev pub nothing : Block
nothing = record { made = false; word = 0; holders = []; duties = []; frees = 0 }

-- an `Add`, by whether it found a count below the limit: it creates a reference, else a surplus one
abbrev pub added : ℕ → Block → ℕ → ℕ → Bool → Block
added limit b k t true =
    record {
      made = b.made;
      word = (b.word + 1) % 2 ^ 64;
      holders = b.holders ++ Reads t ∷ [];
      duties = b.duties;
      frees = b.frees;
    }
added limit b k t false =
    record {
      made = b.made;
      word = (b.word + 1) % 2 ^ 64;
      holders = becomes b.holders k (Surplus t);
      duties = b.duties;
      frees = b.frees;
    }

-- a `Subtract` by thread t: if it found 1, the thread has the duty to free
abbrev pub subtracted : Block → ℕ → Holder → ℕ → Block
subtracted b k h t =
    record {
      made = b.made;
      word = (b.word + (2 ^ 64 - 1)) % 2 ^ 64;
      holders = becomes b.holders k h;
      duties = if b.word == 1 then t ∷ b.duties else b.duties;
      frees = b.frees;
    }

abbrev pub with_holder : Block → ℕ → Holder → Block
with_holder b k h =
    record {
      made = b.made;
      word = b.word;
      holders = becomes b.holders k h;
      duties = b.duties;
      frees = b.frees;
    }

abbrev pub add_by : ℕ → Block → ℕ → Holder → Block
add_by limit b k (Reads t) = added limit b k t (ltb b.word limit)
add_by limit b k h = b

-- allowed if the load finds 1
abbrev pub alone_by : Block → ℕ → Holder → Block
alone_by b k (Reads t) = if b.word == 1 then with_holder b k (Writes t) else b
alone_by b k h = b

abbrev pub done_by : Block → ℕ → Holder → Block
done_by b k (Writes t) = with_holder b k (Reads t)
done_by b k h = b

abbrev pub subtract_by : Block → ℕ → Holder → Block
subtract_by b k Ended = b
subtract_by b k (Reads t) = subtracted b k Ended t
subtract_by b k (Writes t) = subtracted b k Ended t
subtract_by b k (Surplus t) = subtracted b k (Reads t) t

abbrev pub pass_by : Block → ℕ → ℕ → Holder → Block
pass_by b k t (Reads s) = with_holder b k (Reads t)
pass_by b k t h = b

-- One step. A step that isn't allowed changes nothing, nor does an `Alone` whose load finds more than 1.
abbrev pub happens : ℕ → Block → CountStep → Block
happens limit b (Make t) =
    if b.made then b else record { made = true; word = 1; holders = Reads t ∷ []; duties = []; frees = 0 }
happens limit b (Add k) = add_by limit b k (holder_at b.holders k)
happens limit b (Alone k) = alone_by b k (holder_at b.holders k)
happens limit b (Done k) = done_by b k (holder_at b.holders k)
happens limit b (Subtract k) = subtract_by b k (holder_at b.holders k)
happens limit b (Free t) =
    if has t b.duties
    then record {
      made = b.made;
      word = b.word;
      holders = b.holders;
      duties = without t b.duties;
      frees = b.frees + 1;
    }
    else b
happens limit b (Pass k t) = pass_by b k t (holder_at b.holders k)

abbrev pub run : ℕ → List CountStep → Block → Block
run limit [] b = b
run limit (s ∷ steps) b = run limit steps (happens limit b s)

-- the state after `Make` by this thread, and then these steps
abbrev pub after : ℕ → ℕ → List CountStep → Block
after limit thread steps = run limit (Make thread ∷ steps) nothing

-- 1 for a reference that exists, whether or not it has a surplus one
abbrev pub is_held : Holder → ℕ
is_held Ended = 0
is_held (Reads t) = 1
is_held (Writes t) = 1
is_held (Surplus t) = 1

-- 1 for a reference that has a surplus one
abbrev pub is_surplus : Holder → ℕ
is_surplus Ended = 0
is_surplus (Reads t) = 0
is_surplus (Writes t) = 0
is_surplus (Surplus t) = 1

abbrev pub total : (Holder → ℕ) → List Holder → ℕ
total f [] = 0
total f (h ∷ hs) = f h + total f hs

abbrev pub held : Block → ℕ
held b = total is_held b.holders

abbrev pub surplus : Block → ℕ
surplus b = total is_surplus b.holders

abbrev pub IsLimit : ℕ → Type 0
IsLimit limit = (0 < limit) × (limit ≤ 4294967295)

-- the count is the number of references, and its bounds
pub record IsCounted (limit : ℕ) (b : Block) : Type 0 where
  pub word : b.word ≡ held b + surplus b
  pub most : b.word ≤ 2 * limit
  pub within : held b ≤ limit

-- it is freed at most once, and never while a reference exists
pub record IsFreedOnce (b : Block) : Type 0 where
  pub once : b.frees ≤ 1
  pub not_held : 0 < b.frees → (held b ≡ 0) × (surplus b ≡ 0)

-- without references the block is freed, or exactly one thread has the duty to free it; with references no thread has
pub record IsOnesDuty (b : Block) : Type 0 where
  pub without_holders : held b ≡ 0 → ((b.frees ≡ 1) × (b.duties ≡ [])) ⊎ ((b.frees ≡ 0) × (length b.duties ≡ 1))
  pub with_holders : 0 < held b → (b.frees ≡ 0) × (b.duties ≡ [])

abbrev pub IsWriter : Block → ℕ → ℕ → Type 0
IsWriter b k t = holder_at b.holders k ≡ Writes t

-- there is exactly one reference
abbrev pub IsAlone : Block → Type 0
IsAlone b = (held b ≡ 1) × (surplus b ≡ 0)

-- the steps that end the write of reference k
abbrev pub IsEndOfWrite : CountStep → ℕ → Type 0
IsEndOfWrite s k = (s ≡ Done k) ⊎ (s ≡ Subtract k)
