-- Bytes that are compared slice by slice.
use Rattle.std.proofs.Common.{◌≡◌, ℕ, ◌+◌, ◌≤◌, Bool, true, false, not, List, ◌++◌, length, take, drop, sym, ap, ◌∙◌}
use Rattle.std.specs.Prelude.{IsTrue}
use Rattle.std.proofs.Math.Seq.{take-add}
use Rattle.std.proofs.lemmas.List.{take-take}

-- a prefix of the bytes from an offset on
front_at : (b x : List ℕ) (at n : ℕ) → n ≤ length x → x ≡ take (length x) (drop at b) → take n x ≡ take n (drop at b)
front_at b x at n h is = ap (λ l. take n l) is ∙ take-take n (length x) (drop at b) h

-- one more slice is equal
pub same_more : (a b x y : List ℕ) (at n : ℕ) → n ≤ length x → n ≤ length y → x ≡ take (length x) (drop at a)
    → y ≡ take (length y) (drop at b) → take n x ≡ take n y → take at a ≡ take at b → take (at + n) a ≡ take (at + n) b
same_more a b x y at n h k is is' part same =
    take-add at n a ∙ ap (λ l. l ++ take n (drop at a)) same
    ∙ ap (λ l. take at b ++ l) (sym (front_at a x at n h is) ∙ part ∙ front_at b y at n k is')
    ∙ sym (take-add at n b)

-- if all bytes are equal, each slice is
pub same_part : (a b x y : List ℕ) (at n : ℕ) → n ≤ length x → n ≤ length y → x ≡ take (length x) (drop at a)
    → y ≡ take (length y) (drop at b) → a ≡ b → take n x ≡ take n y
same_part a b x y at n h k is is' same = front_at a x at n h is ∙ ap (λ l. take n (drop at l)) same
    ∙ sym (front_at b y at n k is')

-- a comparison doesn't say that equal slices differ
pub told_equal : (r p : Bool) → r ≡ not p → r ≡ true → p ≡ true → IsTrue false
told_equal r true e is same = sym e ∙ is
told_equal r false e is same = same

pub not_so : {A : Type 0} → IsTrue false → A
not_so t = absurd (false_not_true t)
  where
    false_not_true : false ≡ true → ⊥
    false_not_true e = cc
