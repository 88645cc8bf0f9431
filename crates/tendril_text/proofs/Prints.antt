use Rattle.std.proofs.Common.{◌≡◌, ℕ, ◌≤◌, List, [], ◌∷◌, ◌++◌, length, Option, Some, None, Result, Ok, Err, IfSome}
use Rattle.std.proofs.Common.{IsOk, OnOk, refl, sym, subst, ap, ◌∙◌, append-nil, append_assoc, arith}
use Rattle.std.proofs.lemmas.List.{length-append}
use Rattle.std.specs.Fmt.{WritesInCalls}
use Rattle.std.specs.List.{FoldsTo, concat}
use Rattle.tendril_errors.specs.declared.refusal.Refusal.{Refusal}
use Rattle.tendril_text.specs.Items.{LengthRefused}
use Rattle.tendril_text.specs.Writes.{IsPrinted, TakesPiece}

-- the push of the first piece fails
first_refused : (b x ys c : List ℕ) (q : Option Refusal) (r : Refusal) → LengthRefused (length (b ++ x)) r
    → q ≡ Some r → IsPrinted (b ++ (x ++ ys)) c q
first_refused b x ys c q r h e =
    let within : length (b ++ x) ≤ length (b ++ (x ++ ys)) = simp length-append (omega arith) in
    subst (λ o. IsPrinted (b ++ (x ++ ys)) c o) (sym e) (length (b ++ x), within, h)

-- the first piece is pushed, or its push fails, and the others follow
then_others : (b x ys b' c : List ℕ) (o q : Option Refusal) → TakesPiece b None x b' o
    → ((r : Refusal) → o ≡ Some r → q ≡ Some r) → (o ≡ None → IsPrinted (b' ++ ys) c q) → IsPrinted (b ++ (x ++ ys)) c q
then_others b x ys b' c None q t keeps rest =
    subst (λ all. IsPrinted all c q) (ap (λ l. l ++ ys) t ∙ append_assoc b x ys) (rest refl)
then_others b x ys b' c (Some r) q t keeps rest = first_refused b x ys c q r t.1 (keeps r refl)

module _ {W : Type 0} (bytes : W → List ℕ) (refused : W → Option Refusal) where
  abbrev Took : W → List ℕ → W → Type 0
  Took w piece v = TakesPiece (bytes w) (refused w) piece (bytes v) (refused v)

  still_refused : (w : W) (pieces : List (List ℕ)) (v : W) (r : Refusal) → refused w ≡ Some r
      → FoldsTo Took w pieces v → refused v ≡ Some r
  still_refused w [] v r e p = ap refused (sym p) ∙ e
  still_refused w (x ∷ xs) v r e p =
      still_refused p.0 xs v r (subst (λ o. TakesPiece (bytes w) o x (bytes p.0) (refused p.0)) e p.1).1 p.2

  after_calls : (w : W) (pieces : List (List ℕ)) (v : W) → refused w ≡ None → FoldsTo Took w pieces v
      → IsPrinted (bytes w ++ concat pieces) (bytes v) (refused v)
  after_calls w [] v e p = subst (λ u. IsPrinted (bytes w ++ []) (bytes u) (refused u)) p
      (subst (λ o. IsPrinted (bytes w ++ []) (bytes w) o) (sym e) (sym (append-nil (bytes w))))
  after_calls w (x ∷ xs) v e p =
      then_others (bytes w) x (concat xs) (bytes p.0) (bytes v) (refused p.0) (refused v)
      (subst (λ o. TakesPiece (bytes w) o x (bytes p.0) (refused p.0)) e p.1)
      (λ r k. still_refused p.0 xs v r k p.2)
      (λ k. after_calls p.0 xs v k p.2)

  -- what a printer holds after some calls that wrote `text`
  pub printed : (w : W) (text : List ℕ) (v : W) → refused w ≡ None → bytes w ≡ [] → WritesInCalls Took w text v
      → IsPrinted text (bytes v) (refused v)
  printed w text v e empty p = subst (λ all. IsPrinted all (bytes v) (refused v)) (ap (λ b. b ++ concat p.parts) empty
      ∙ p.whole) (after_calls w p.parts v e p.calls)

-- a fact about a printed text implies another, if the text is known
pub at_text : {P Q : List ℕ → Type 0} (o : Option (List ℕ)) → ((bs : List ℕ) → P bs → Q bs) → IfSome o P → IfSome o Q
at_text None f h = tt
at_text (Some bs) f h = f bs h

pub at_ok : {X E : Type 0} {P : Type 0} (r : Result X E) → (IsOk r → P) → OnOk r P
at_ok (Ok x) f = f refl
at_ok (Err e) f = tt
