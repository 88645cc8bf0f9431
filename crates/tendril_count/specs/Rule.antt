-- The invariant of a counted block, and what a reference owns. The count is at offset o of the heap block b. The
-- references borrow P for the lifetime a, and each owns one of 2 ^ 63 parts of a's token. The ghost name γ has the role
-- of each reference.
use mathlib.Core.Path.{sym, ap, ◌∙◌}
use Rattle.std.specs.Prelude.{◌≡◌, ◌≢◌, refl, ℕ, zero, suc, ◌<◌, Bool, true, false, if◌then◌else◌, ⊤, List, [], ◌∷◌}
use base.Stored.{Gv, Coded, coded_ℕ, coded_via}
use base.Share.{three_quarters}
use base.Fml.{Fml, fsep, fex, fdead, flent}
use types.RcWeak.{part, rest}
use Rattle.atomic_table.specs.Seated.{word, fact, seen, roster}
use Rattle.tendril_count.specs.Machine.{
  Holder,
  Ended,
  Reads,
  Writes,
  Surplus,
  Block,
  CountStep,
  Make,
  Add,
  Alone,
  Done,
  Subtract,
  Free,
  Pass,
  held,
  after,
  holder_at,
}

-- what the mark of a reference says that it does, on whatever thread
pub data Role : Type 0 where
  Gone : Role
  Reader : Role
  Writer : Role
  -- it has a surplus reference
  Owing : Role

abbrev pub role : Holder → Role
role Ended = Gone
role (Reads t) = Reader
role (Writes t) = Writer
role (Surplus t) = Owing

abbrev pub roles : List Holder → List Role
roles [] = []
roles (h ∷ hs) = role h ∷ roles hs

abbrev pub number : Role → ℕ
number Gone = 0
number Reader = 1
number Writer = 2
number Owing = 3

abbrev role_by : ℕ → Role
role_by zero = Gone
role_by (suc zero) = Reader
role_by (suc (suc zero)) = Writer
role_by (suc (suc (suc n))) = Owing

back : (r : Role) → role_by (number r) ≡ r
back Gone = refl
back Reader = refl
back Writer = refl
back Owing = refl

-- the ghost value of a role
pub role_coded : Coded Role
role_coded = coded_via coded_ℕ number (λ x y e. sym (back x) ∙ ap role_by e ∙ back y)

-- the threads whose steps are allowed: all threads, between which references may pass, or one
pub data Threads : Type 0 where
  Any : Threads
  Only : (thread : ℕ) → Threads

-- whether a step leaves each reference on its thread
abbrev pub stays : CountStep → Bool
stays (Make t) = true
stays (Add k) = true
stays (Alone k) = true
stays (Done k) = true
stays (Subtract k) = true
stays (Free t) = true
stays (Pass k t) = false

abbrev pub all_stay : List CountStep → Bool
all_stay [] = true
all_stay (s ∷ steps) = if stays s then all_stay steps else false

-- some list of these threads' steps leads to the block
abbrev pub IsReached : Threads → ℕ → Block → Type 0
IsReached Any limit s = (thread : ℕ) × (steps : List CountStep) × (s ≡ after limit thread steps)
IsReached (Only thread) limit s = (steps : List CountStep) × (all_stay steps ≡ true) × (s ≡ after limit thread steps)

-- whether a thread may take steps
abbrev pub IsTurn : Threads → ℕ → Type 0
IsTurn Any t = ⊤
IsTurn (Only thread) t = thread ≡ t

module _ (c : Role → Gv) where
  -- the mark of reference k: the right to its steps
  abbrev pub mark : ℕ → ℕ → Role → Fml
  mark γ k r = seen c γ k three_quarters r

  module _ (whose : Threads) (limit : ℕ) (P : Fml) (b o a γ : ℕ) where
    abbrev pub beside : Block → Fml
    beside s = fsep (roster c γ 0 (roles s.holders))
        (fsep (fact (IsReached whose limit s × (0 < held s))) (fsep (rest 63 a (held s)) (flent (a ∷ []) P)))

    abbrev pub live : Block → Fml
    live s = fsep (word b o s.word) (beside s)

    abbrev pub state : Bool → Fml
    state true = fex Block live
    state false = fdead (a ∷ [])

    -- the invariant: what holds between any two steps
    abbrev pub Inv : Fml
    Inv = fex Bool state

    -- what a thread owns that took everything out of the invariant: the count n, P, and the machine, of which `Is`
    -- holds
    abbrev pub out : (Block → Type 0) → ℕ → Fml
    out Is n = fsep (word b o n)
        (fsep (fdead (a ∷ []))
        (fsep (flent (a ∷ []) P)
        (fex Block (λ s. fsep (roster c γ 0 (roles s.holders))
        (fact (IsReached whose limit s × (s.word ≡ n) × Is s))))))

    -- what an `Add` gives, by compare and exchange of `old`: a new reference if it found that
    abbrev pub join_gives : ℕ → ℕ → Bool → Fml
    join_gives old n true = fsep (fact (n ≡ old)) (fsep (fex ℕ (λ j. mark γ j Reader)) (part 63 a))
    join_gives old n false = fact (n ≢ old)

    -- what a load that found n gives: at 1 all that `out` owns, else nothing new
    abbrev pub alone_gives : ℕ → ℕ → ℕ → Bool → Fml
    alone_gives k t n true =
        fsep (fact (n ≡ 1)) (fsep (mark γ k Writer) (out (λ s. holder_at s.holders k ≡ Writes t) 1))
    alone_gives k t n false = fsep (fact (n ≢ 1)) (fsep (mark γ k Reader) (part 63 a))

    -- what a `Subtract` that found n gives: at 1 the duty to free and all that `out` owns, else nothing
    abbrev pub subtract_gives : ℕ → ℕ → Bool → Fml
    subtract_gives t n true = fsep (fact (n ≡ 1)) (out (λ s. (held s ≡ 0) × (s.frees ≡ 0) × (s.duties ≡ t ∷ [])) 0)
    subtract_gives t n false = fact (n ≢ 1)
