use Rattle.std.proofs.Common.{◌≡◌, ℕ, ◌+◌, ◌≤◌, ◌<◌, List, [], ◌∷◌, ◌++◌, length, take, max, map, Option, Some, Result}
use Rattle.std.proofs.Common.{Ok, refl, sym, subst, ap, ◌∙◌, ◌⊎◌, inl, inr, append-nil, append_assoc, eq-or-lt_of_le}
use Rattle.std.proofs.Common.{length-append, arith}
use Rattle.std.proofs.Math.Seq.{take-append-add}
use Rattle.std.proofs.lemmas.List.{map-id, take-append-le}
use Rattle.std.proofs.lemmas.List.Concat.{flat_map_single}
use Rattle.std.proofs.lemmas.List.Sums.{fold-append, sum_by_push}
use Rattle.std.proofs.lemmas.Result.{IfOk-weaker, MatchResult-weaker}
use Rattle.std.specs.Borrow.{Bor}
use Rattle.std.specs.Iterator.{Yields}
use Rattle.std.specs.Prelude.{flat_map}
use Rattle.tendril_errors.specs.declared.limits.TheConstants.{MAX_LEN}
use Rattle.tendril_errors.specs.declared.refusal.Refusal.{Refusal}
use Rattle.tendril_errors.specs.Outcomes.{LengthMust, MemoryMay, Outcome}
use Rattle.tendril_fmt.specs.Chars.{one_byte}
use Rattle.tendril_text.specs.Pushes.{Joins}
use Rattle.tendril_text.specs.Items.{LengthRefused, appended, joined, cost, Takes, TakesItems, Extends, Makes}
use Rattle.tendril_storage.specs.Texts.{Text}

-- what a text is after the items xs
pub record SoFar {A : Type 0} (bytes_of : A → List ℕ) (join : List ℕ → List ℕ → List ℕ) (old : Text) (xs : List A)
    (new : Text) : Type 0 where
  pub bytes : new.bytes ≡ joined bytes_of join old.bytes xs
  pub fits : (n : ℕ) → n < length xs → length (joined bytes_of join old.bytes (take (n + 1) xs)) ≤ MAX_LEN
  pub grows : max new.copied (length new.bytes) ≤ max old.copied (length old.bytes) + cost bytes_of xs

-- the iterator returned `items`, and a text with them is `new`
pub record Walked {S A : Type 0} (steps : S → Option A → S → Type 0) (bytes_of : A → List ℕ) (join : List ℕ → List ℕ
    → List ℕ) (first : S) (old : Text) (now : S) (new : Text) : Type 0 where
  pub items : List A
  pub yielded : Yields steps first items now
  pub text : SoFar bytes_of join old items new

-- one more call of the iterator
pub Yields-push : {S A : Type 0} (steps : S → Option A → S → Type 0) (s : S) (xs : List A) (t : S) (x : A) (u : S)
    → Yields steps s xs t → steps t (Some x) u → Yields steps s (xs ++ x ∷ []) u
Yields-push steps s [] t x u p h = (u, subst (λ v. steps v (Some x) u) (sym p) h, refl)
Yields-push steps s (y ∷ ys) t x u p h = (p.0, p.1, Yields-push steps p.0 ys t x u p.2 h)

-- one more item that is pushed
module _ {A : Type 0} (bytes_of : A → List ℕ) (join : List ℕ → List ℕ → List ℕ) (old mid : Text) (xs : List A) (x : A)
    (so : SoFar bytes_of join old xs mid) where
  fits_more : length (join mid.bytes (bytes_of x)) ≤ MAX_LEN → (n : ℕ) → (n ≡ length xs) ⊎ (n < length xs)
      → length (joined bytes_of join old.bytes (take (n + 1) (xs ++ x ∷ []))) ≤ MAX_LEN
  fits_more fit n (inl e) =
      let now = subst (λ b. length (join b (bytes_of x)) ≤ MAX_LEN) so.bytes fit in
      subst (λ k. length (joined bytes_of join old.bytes (take (k + 1) (xs ++ x ∷ []))) ≤ MAX_LEN) (sym e)
      (subst (λ ys. length (joined bytes_of join old.bytes ys) ≤ MAX_LEN) (sym (take-append-add xs (x ∷ []) 1))
      (subst (λ b. length b ≤ MAX_LEN) (sym (fold-append (λ a y. join a (bytes_of y)) old.bytes xs (x ∷ []))) now))
  fits_more fit n (inr l) =
      let le : n + 1 ≤ length xs = omega arith in
      subst (λ ys. length (joined bytes_of join old.bytes ys) ≤ MAX_LEN) (sym (take-append-le (n + 1) xs (x ∷ []) le))
      (so.fits n l)

  pub grown : (u : Unit {0}) (r : Result (Unit {0}) Refusal) (new : Text) → r ≡ Ok u
      → Joins join (bytes_of x) mid r new → SoFar bytes_of join old (xs ++ x ∷ []) new
  grown u r new e p =
      let pushed = subst (λ s. Outcome (LengthMust (length (join mid.bytes (bytes_of x))))
      (MemoryMay (length (join mid.bytes (bytes_of x)))) (λ _ t. t.bytes ≡ join mid.bytes (bytes_of x)) mid s new)
      e p.outcome in
      let paid = sum_by_push (λ y. length (bytes_of y) + 4) xs x in
      let copied = p.copied in
      let grows = p.grows in
      let before = so.grows in record {
        bytes = pushed.1 ∙ ap (λ b. join b (bytes_of x)) so.bytes
            ∙ sym (fold-append (λ a y. join a (bytes_of y)) old.bytes xs (x ∷ []));
        fits = λ n l. fits_more pushed.0.0 n
            (eq-or-lt_of_le (let le : n ≤ length xs = omega (arith, length-append xs (x ∷ []), l) in le));
        grows = omega arith;
      }

-- `after` and `after'` are the same function, stated differently
module _ {S A : Type 0} {steps : S → Option A → S → Type 0} {bytes_of : A → List ℕ} (after after' : List ℕ → List A
    → List ℕ) (same : (b : List ℕ) (xs : List A) → after b xs ≡ after' b xs) where
  Takes-same : {R : Type 0} {iterator last : S} {b : List ℕ} {taken : List A} (result : Result R Refusal)
      → Takes steps bytes_of after iterator b taken result last
      → Takes steps bytes_of after' iterator b taken result last
  Takes-same {R} {iterator} {last} {b} {taken} result h = record {
    fits = λ n l. subst (λ ys. length ys ≤ MAX_LEN) (same b (take (n + 1) taken)) (h.fits n l);
    ends = MatchResult-weaker result h.ends (λ _ d. d)
        (λ r e. (e.0, e.1, subst (λ ys. LengthRefused (length ys) r) (same b (taken ++ e.0 ∷ [])) e.2));
  }

  TakesItems-same : {iterator last : S} {old new : Text} (result : Result (Unit {0}) Refusal)
      → TakesItems steps bytes_of after iterator old result new last
      → TakesItems steps bytes_of after' iterator old result new last
  TakesItems-same {iterator} {last} {old} {new} result h = record {
    taken = h.taken;
    takes = Takes-same result h.takes;
    bytes = h.bytes ∙ same old.bytes h.taken;
    copied = h.copied;
  }

module _ {I S A : Type 0} {becomes : I → S → Type 0} {steps : S → Option A → S → Type 0} {bytes_of : A → List ℕ}
    (after after' : List ℕ → List A → List ℕ) (same : (b : List ℕ) (xs : List A) → after b xs ≡ after' b xs) where
  pub Extends-same : {items : I} {old new : Text} (result : Result (Unit {0}) Refusal)
      → Extends becomes steps bytes_of after items old new result
      → Extends becomes steps bytes_of after' items old new result
  Extends-same {items} {old} {new} result h = record {
    iterator = h.iterator;
    made = h.made;
    last = h.last;
    extends = TakesItems-same _ _ same result h.extends;
  }

  pub Makes-same : {items : I} (result : Result Text Refusal) → Makes becomes steps bytes_of after items result
      → Makes becomes steps bytes_of after' items result
  Makes-same {items} result h = record {
    iterator = h.iterator;
    made = h.made;
    last = h.last;
    taken = h.taken;
    takes = Takes-same _ _ same result h.takes;
    bytes = IfOk-weaker result _ _ (λ t e. e ∙ same [] h.taken) h.bytes;
    copied = h.copied;
  }

-- joined by appending
pub joined-appended : {A : Type 0} (bytes_of : A → List ℕ) (b : List ℕ) (xs : List A) → joined bytes_of ◌++◌ b xs
    ≡ appended bytes_of b xs
joined-appended bytes_of b [] = sym (append-nil b)
joined-appended bytes_of b (x ∷ xs) = joined-appended bytes_of (b ++ bytes_of x) xs
    ∙ append_assoc b (bytes_of x) (flat_map bytes_of xs)

joined-bytes : (b xs : List ℕ) → joined one_byte ◌++◌ b xs ≡ b ++ xs
joined-bytes b xs = joined-appended one_byte b xs ∙ ap (λ ys. b ++ ys) (flat_map_single (λ x. x) xs ∙ map-id xs)

joined-byte_refs : (b : List ℕ) (xs : List (Bor ℕ)) → joined (λ x. one_byte x.now) ◌++◌ b xs ≡ b ++ map (λ x. x.now) xs
joined-byte_refs b xs = joined-appended (λ x. one_byte x.now) b xs
    ∙ ap (λ ys. b ++ ys) (flat_map_single (λ x. x.now) xs)

module _ {I S A : Type 0} {becomes : I → S → Type 0} {steps : S → Option A → S → Type 0} {bytes_of : A → List ℕ}
    {items : I} where
  pub extends_appended : {old new : Text} {result : Result (Unit {0}) Refusal}
      → Extends becomes steps bytes_of (joined bytes_of ◌++◌) items old new result
      → Extends becomes steps bytes_of (appended bytes_of) items old new result
  extends_appended {old} {new} {result} h = Extends-same _ _ (joined-appended bytes_of) result h

  pub makes_appended : {result : Result Text Refusal}
      → Makes becomes steps bytes_of (joined bytes_of ◌++◌) items result
      → Makes becomes steps bytes_of (appended bytes_of) items result
  makes_appended {result} h = Makes-same _ _ (joined-appended bytes_of) result h

module _ {I S : Type 0} {becomes : I → S → Type 0} {steps : S → Option ℕ → S → Type 0} {items : I} where
  pub extends_bytes : {old new : Text} {result : Result (Unit {0}) Refusal}
      → Extends becomes steps one_byte (joined one_byte ◌++◌) items old new result
      → Extends becomes steps one_byte ◌++◌ items old new result
  extends_bytes {old} {new} {result} h = Extends-same _ _ joined-bytes result h

  pub makes_bytes : {result : Result Text Refusal} → Makes becomes steps one_byte (joined one_byte ◌++◌) items result
      → Makes becomes steps one_byte ◌++◌ items result
  makes_bytes {result} h = Makes-same _ _ joined-bytes result h

module _ {I S : Type 0} {becomes : I → S → Type 0} {steps : S → Option (Bor ℕ) → S → Type 0} {items : I} where
  pub extends_byte_refs : {old new : Text} {result : Result (Unit {0}) Refusal}
      → Extends becomes steps (λ x. one_byte x.now) (joined (λ x. one_byte x.now) ◌++◌) items old new result
      → Extends becomes steps (λ x. one_byte x.now) (λ b xs. b ++ map (λ x. x.now) xs) items old new result
  extends_byte_refs {old} {new} {result} h = Extends-same _ _ joined-byte_refs result h

  pub makes_byte_refs : {result : Result Text Refusal}
      → Makes becomes steps (λ x. one_byte x.now) (joined (λ x. one_byte x.now) ◌++◌) items result
      → Makes becomes steps (λ x. one_byte x.now) (λ b xs. b ++ map (λ x. x.now) xs) items result
  makes_byte_refs {result} h = Makes-same _ _ joined-byte_refs result h

pub ruleset appends = (extends_appended, makes_appended, extends_bytes, makes_bytes)
