-- Which bytes `utf8_error_len` reads, and what it returns for them.
use Rattle.std.proofs.Common.{◌≡◌, ◌⊎◌, ℕ, suc, ◌<◌, ◌≤◌, min, Bool, true, false, cond, nat_lt, List, length}
use Rattle.std.proofs.Common.{slice_index, Some, None, refl, sym, ap, ap₂, subst, ◌∙◌, arith, inl, inr, ⊎_elim}
use Rattle.std.proofs.Common.{true≢false}
use Rattle.std.specs.Prelude.{Option, ◌==◌}
use Rattle.std.specs.Int.{is_in_range}
use Rattle.std.specs.Str.Lossy.{utf8_error_len, second_byte_min, second_byte_max}
use Rattle.std.proofs.lemmas.Bool.{cases_Bool, cond-true, cond-false}
use Rattle.std.proofs.lemmas.Bool.Decides.{nat_tests}

abbrev pub lead : ℕ → Bool
lead x = is_in_range 0xC2 0xF4 x

abbrev pub second : ℕ → ℕ → Bool
second x y = is_in_range (second_byte_min x) (second_byte_max x) y

abbrev pub later : ℕ → Bool
later z = is_in_range 0x80 0xBF z

-- `utf8_error_len` of n bytes that begin x, y, z
abbrev pub err : ℕ → ℕ → ℕ → ℕ → Option ℕ
err n x y z = cond (n == 0) None
    (cond (lead x) (cond (nat_lt n 2) None
    (cond (second x y) (cond (nat_lt n 3) None (cond (later z) (cond (nat_lt n 4) None (Some 3)) (Some 2))) (Some 1)))
    (Some 1))

pub err_is : (bs : List ℕ) → utf8_error_len bs ≡ err (length bs) (slice_index bs 0) (slice_index bs 1)
    (slice_index bs 2)
unfolding utf8_error_len
err_is bs = refl

pub data Fault (n x y z : ℕ) (r : Option ℕ) : Type 0 where
  empty : n ≡ 0 → r ≡ None → Fault n x y z r
  no_start : 0 < n → lead x ≡ false → r ≡ Some 1 → Fault n x y z r
  after_one : n ≡ 1 → lead x ≡ true → r ≡ None → Fault n x y z r
  no_second : 2 ≤ n → lead x ≡ true → second x y ≡ false → r ≡ Some 1 → Fault n x y z r
  after_two : n ≡ 2 → lead x ≡ true → second x y ≡ true → r ≡ None → Fault n x y z r
  no_third : 3 ≤ n → lead x ≡ true → second x y ≡ true → later z ≡ false → r ≡ Some 2 → Fault n x y z r
  after_three : n ≡ 3 → lead x ≡ true → second x y ≡ true → later z ≡ true → r ≡ None → Fault n x y z r
  no_fourth : 4 ≤ n → lead x ≡ true → second x y ≡ true → later z ≡ true → r ≡ Some 3 → Fault n x y z r

split : {A : Type 0} (t : Bool) (x y : A) → ((t ≡ true) × (cond t x y ≡ x)) ⊎ ((t ≡ false) × (cond t x y ≡ y))
split t x y = ⊎_elim (λ yes. inl (yes, cond-true _ _ _ yes)) (λ no. inr (no, cond-false _ _ _ no)) (cases_Bool t)

split-lt : {A : Type 0} (a b : ℕ) (x y : A) → ((a < b) × (cond (nat_lt a b) x y ≡ x))
    ⊎ ((b ≤ a) × (cond (nat_lt a b) x y ≡ y))
split-lt a b x y = ⊎_elim (λ yes. inl (grind (arith, nat_tests), cond-true _ _ _ yes))
    (λ no. inr (grind (arith, nat_tests), cond-false _ _ _ no)) (cases_Bool (nat_lt a b))

split-zero : {A : Type 0} (n : ℕ) (x y : A) → ((n ≡ 0) × (cond (n == 0) x y ≡ x)) ⊎ ((0 < n) × (cond (n == 0) x y ≡ y))
split-zero n x y = ⊎_elim (λ yes. inl (grind (arith, nat_tests), cond-true _ _ _ yes))
    (λ no. inr (grind (arith, nat_tests), cond-false _ _ _ no)) (cases_Bool (n == 0))

fault_of : (n x y z : ℕ) → Fault n x y z (err n x y z)
fault_of n x y z =
    ⊎_elim (λ p0. empty p0.0 p0.1) (λ p0.
    ⊎_elim (λ p1.
    ⊎_elim (λ p2. let e : n ≡ 1 = omega (arith, p0.0, p2.0) in after_one e p1.0 (p0.1 ∙ p1.1 ∙ p2.1)) (λ p2.
    ⊎_elim (λ p3.
    ⊎_elim (λ p4. let e : n ≡ 2 = omega (arith, p2.0, p4.0) in
    after_two e p1.0 p3.0 (p0.1 ∙ p1.1 ∙ p2.1 ∙ p3.1 ∙ p4.1)) (λ p4.
    ⊎_elim (λ p5.
    ⊎_elim (λ p6. let e : n ≡ 3 = omega (arith, p4.0, p6.0) in
    after_three e p1.0 p3.0 p5.0 (p0.1 ∙ p1.1 ∙ p2.1 ∙ p3.1 ∙ p4.1 ∙ p5.1 ∙ p6.1))
    (λ p6. no_fourth p6.0 p1.0 p3.0 p5.0 (p0.1 ∙ p1.1 ∙ p2.1 ∙ p3.1 ∙ p4.1 ∙ p5.1 ∙ p6.1)) (split-lt n 4 _ _))
    (λ p5. no_third p4.0 p1.0 p3.0 p5.0 (p0.1 ∙ p1.1 ∙ p2.1 ∙ p3.1 ∙ p4.1 ∙ p5.1)) (split (later z) _ _))
    (split-lt n 3 _ _))
    (λ p3. no_second p2.0 p1.0 p3.0 (p0.1 ∙ p1.1 ∙ p2.1 ∙ p3.1)) (split (second x y) _ _))
    (split-lt n 2 _ _))
    (λ p1. no_start p0.0 p1.0 (p0.1 ∙ p1.1)) (split (lead x) _ _))
    (split-zero n _ _)

abbrev pub FaultOf : List ℕ → Option ℕ → Type 0
FaultOf bs r = Fault (length bs) (slice_index bs 0) (slice_index bs 1) (slice_index bs 2) r

pub fault : (bs : List ℕ) → FaultOf bs (utf8_error_len bs)
fault bs = subst (FaultOf bs) (sym (err_is bs))
    (fault_of (length bs) (slice_index bs 0) (slice_index bs 1) (slice_index bs 2))

bounds : (n x y z : ℕ) (r : Option ℕ) (k : ℕ) → Fault n x y z r → r ≡ Some k → (0 < k) × (k ≤ n) × (k < 4)
bounds n x y z r k (empty _ e) i = cc
bounds n x y z r k (no_start p _ e) i = let s : k ≡ 1 = cc in (omega arith, omega arith, omega arith)
bounds n x y z r k (after_one _ _ e) i = cc
bounds n x y z r k (no_second p _ _ e) i = let s : k ≡ 1 = cc in (omega arith, omega arith, omega arith)
bounds n x y z r k (after_two _ _ _ e) i = cc
bounds n x y z r k (no_third p _ _ _ e) i = let s : k ≡ 2 = cc in (omega arith, omega arith, omega arith)
bounds n x y z r k (after_three _ _ _ _ e) i = cc
bounds n x y z r k (no_fourth p _ _ _ e) i = let s : k ≡ 3 = cc in (omega arith, omega arith, omega arith)

pub error-bounds : (bs : List ℕ) (k : ℕ) → utf8_error_len bs ≡ Some k → (0 < k) × (k ≤ length bs) × (k < 4)
error-bounds bs k e = bounds _ _ _ _ _ k (fault bs) e

-- without an error in the bytes that it reads, it returns None
pub none_by : (n x y z : ℕ) (r : Option ℕ) → Fault n x y z r → (0 < n → lead x ≡ true) → (1 < n → second x y ≡ true)
    → (2 < n → later z ≡ true) → n < 4 → r ≡ None
none_by n x y z r (empty _ e) l s t b = e
none_by n x y z r (no_start p h e) l s t b = absurd (true≢false (sym (l p) ∙ h))
none_by n x y z r (after_one _ _ e) l s t b = e
none_by n x y z r (no_second p _ h e) l s t b = absurd (true≢false (sym (s p) ∙ h))
none_by n x y z r (after_two _ _ _ e) l s t b = e
none_by n x y z r (no_third p _ _ h e) l s t b = absurd (true≢false (sym (t p) ∙ h))
none_by n x y z r (after_three _ _ _ _ e) l s t b = e
none_by n x y z r (no_fourth p _ _ _ e) l s t b = absurd (omega arith)

not_zero : (n : ℕ) → 0 < n → (n == 0) ≡ false
not_zero n p = grind (arith, nat_tests)

pub not_less : (n k : ℕ) → k ≤ n → nat_lt n k ≡ false
not_less n k p = grind (arith, nat_tests)

pub at_start : (n x y z : ℕ) → 0 < n → lead x ≡ false → err n x y z ≡ Some 1
at_start n x y z p l = cond-false _ _ _ (not_zero n p) ∙ cond-false _ _ _ l

pub past_start : (n x y z : ℕ) → 2 ≤ n → lead x ≡ true → err n x y z
    ≡ cond (second x y) (cond (nat_lt n 3) None (cond (later z) (cond (nat_lt n 4) None (Some 3)) (Some 2))) (Some 1)
past_start n x y z p l = cond-false _ _ _ (not_zero n (omega arith)) ∙ cond-true _ _ _ l
    ∙ cond-false _ _ _ (not_less n 2 p)

pub past_second : (n x y z : ℕ) → 3 ≤ n → lead x ≡ true → second x y ≡ true → err n x y z
    ≡ cond (later z) (cond (nat_lt n 4) None (Some 3)) (Some 2)
past_second n x y z p l s = past_start n x y z (omega arith) l ∙ cond-true _ _ _ s ∙ cond-false _ _ _ (not_less n 3 p)

-- an error is the same in other bytes that agree as far as it reads
pub same_error : (bs cs : List ℕ) (k : ℕ) → utf8_error_len bs ≡ Some k → min (length bs) (suc k) ≤ length cs
    → ((i : ℕ) → i < length bs → i < length cs → slice_index bs i ≡ slice_index cs i) → utf8_error_len cs ≡ Some k
same_error bs cs k i le agree = err_is cs ∙ by (utf8_error_len bs) (fault bs) i
  where
    by : (r : Option ℕ) → FaultOf bs r → r ≡ Some k
        → err (length cs) (slice_index cs 0) (slice_index cs 1) (slice_index cs 2) ≡ Some k
    by r (empty _ e) i = cc
    by r (no_start p h e) i =
        let one : k ≡ 1 = cc in
        at_start (length cs) (slice_index cs 0) (slice_index cs 1) (slice_index cs 2) (omega arith)
        (ap lead (sym (agree 0 p (omega arith))) ∙ h) ∙ ap Some (sym one)
    by r (after_one _ _ e) i = cc
    by r (no_second p h s e) i =
        let one : k ≡ 1 = cc in
        let a = agree 0 (omega arith) (omega arith) in
        let b = agree 1 (omega arith) (omega arith) in
        past_start (length cs) (slice_index cs 0) (slice_index cs 1) (slice_index cs 2) (omega arith)
        (ap lead (sym a) ∙ h)
        ∙ cond-false _ _ _ (ap₂ second (sym a) (sym b) ∙ s) ∙ ap Some (sym one)
    by r (after_two _ _ _ e) i = cc
    by r (no_third p h s t e) i =
        let two : k ≡ 2 = cc in
        let a = agree 0 (omega arith) (omega arith) in
        let b = agree 1 (omega arith) (omega arith) in
        let d = agree 2 (omega arith) (omega arith) in
        past_second (length cs) (slice_index cs 0) (slice_index cs 1) (slice_index cs 2) (omega arith)
        (ap lead (sym a) ∙ h) (ap₂ second (sym a) (sym b) ∙ s)
        ∙ cond-false _ _ _ (ap later (sym d) ∙ t) ∙ ap Some (sym two)
    by r (after_three _ _ _ _ e) i = cc
    by r (no_fourth p h s t e) i =
        let three : k ≡ 3 = cc in
        let a = agree 0 (omega arith) (omega arith) in
        let b = agree 1 (omega arith) (omega arith) in
        let d = agree 2 (omega arith) (omega arith) in
        past_second (length cs) (slice_index cs 0) (slice_index cs 1) (slice_index cs 2) (omega arith)
        (ap lead (sym a) ∙ h) (ap₂ second (sym a) (sym b) ∙ s)
        ∙ cond-true _ _ _ (ap later (sym d) ∙ t) ∙ cond-false _ _ _ (not_less (length cs) 4 (omega arith))
        ∙ ap Some (sym three)
