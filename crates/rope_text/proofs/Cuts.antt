-- Character boundaries in bytes that are UTF-8.
use Rattle.std.proofs.Common.{◌≡◌, ℕ, zero, suc, ◌+◌, ◌-◌, ◌<◌, ◌≤◌, List, [], ◌∷◌, ◌++◌, length, get_or, take, drop}
use Rattle.std.proofs.Common.{refl, sym, ap, ◌∙◌, subst, arith, append-nil}
use Rattle.std.specs.Prelude.{IsUtf8, ◌↔◌}
use Rattle.std.specs.Str.{IsCharBoundary}
use Rattle.std.proofs.lemmas.Str.{IsUtf8-nil, IsUtf8-drop, IsUtf8-between, IsCharBoundary-start}
use Rattle.std.proofs.lemmas.Str.{IsCharBoundary-from_take, IsCharBoundary-from_rest}
use Rattle.std.proofs.lemmas.List.{get_or-drop, get_or-take, get_or_append_left, length-drop, length-take}
use Rattle.std.proofs.lemmas.List.{length-append, take_at, take-append-le, drop-append-le, drop_at, take_all}

-- if two lists have the same byte at two offsets, both offsets are character boundaries or neither is
pub same_cut : (b p : List ℕ) (at i : ℕ) → at < length b → i < length p → get_or b at 0 ≡ get_or p i 0
    → IsCharBoundary p i ↔ IsCharBoundary b at
same_cut b p at i h k e = (
  λ c. (omega arith, λ _. subst (λ x. 128 ≤ x → 192 ≤ x) (sym e) (c.1 k)),
  λ c.
      (omega arith, λ _. subst (λ x. 128 ≤ x → 192 ≤ x) e (c.1 h)),
)

-- UTF-8 that is within UTF-8 begins and ends at character boundaries
pub begins_at_cut : (b : List ℕ) (offset count : ℕ) → offset + count ≤ length b → 0 < count
    → IsUtf8 (take count (drop offset b)) → IsCharBoundary b offset
begins_at_cut b offset count h some u =
    let len : length (take count (drop offset b)) ≡ count = simp (length-take, length-drop) (omega arith) in
    let e : get_or b offset 0 ≡ get_or (take count (drop offset b)) 0 0 =
    sym (get_or-take count (drop offset b) 0 0 some ∙ get_or-drop offset b 0 0
    ∙ ap (λ n. get_or b n 0) (omega arith)) in
    (same_cut b (take count (drop offset b)) offset 0 (omega arith) (omega arith) e).0
    (IsCharBoundary-start (take count (drop offset b)) u)

pub ends_at_cut : (b : List ℕ) (offset count : ℕ) → IsUtf8 b → offset + count ≤ length b → 0 < count
    → IsUtf8 (take count (drop offset b)) → IsCharBoundary b (offset + count)
ends_at_cut b offset count u h some v =
    IsCharBoundary-from_rest b offset count (omega arith)
    (IsCharBoundary-from_take (drop offset b) count
    (IsUtf8-drop b offset u (begins_at_cut b offset count h some v)) (rw length-drop (omega arith)) v)

pub between_cuts : (b : List ℕ) (offset count : ℕ) → IsUtf8 b → IsCharBoundary b offset
    → IsCharBoundary b (offset + count) → IsUtf8 (take count (drop offset b))
between_cuts b offset count u c d =
    let e : offset + count - offset ≡ count = omega arith in
    subst (λ n. IsUtf8 (take n (drop offset b))) e (IsUtf8-between b offset (offset + count) u (omega arith) c d)

-- A text that begins within p and goes on in q, if p is UTF-8: what it has of p is UTF-8, and so is its remainder.
pub record IsParted (p q : List ℕ) (from left n : ℕ) : Type 0 where
  pub valid : IsUtf8 (take n (drop from p))
  pub rest_valid : IsUtf8 (take (left - n) (drop 0 q))
  pub parts : take left (drop from (p ++ q)) ≡ take n (drop from p) ++ take (left - n) (drop 0 q)

pub parted_short : (p q : List ℕ) (from left : ℕ) → from + left ≤ length p → IsUtf8 (take left (drop from (p ++ q)))
    → IsParted p q from left left
parted_short p q from left h u =
    let e : take left (drop from (p ++ q)) ≡ take left (drop from p) =
    rw (drop-append-le from p q (omega arith))
    (take-append-le left (drop from p) q (rw length-drop (omega arith))) in
    let none : left - left ≡ 0 = omega arith in
    record {
      valid = subst IsUtf8 e u;
      rest_valid = rw none IsUtf8-nil;
      parts = rw none (e ∙ sym (append-nil (take left (drop from p))));
    }

take_past : (xs ys : List ℕ) (n : ℕ) → length xs ≤ n → take n (xs ++ ys) ≡ xs ++ take (n - length xs) ys
take_past [] ys n h = ap (λ m. take m ys) (omega arith)
take_past (x ∷ xs) ys zero h = absurd (omega arith)
take_past (x ∷ xs) ys (suc n) h =
    ap (λ l. x ∷ l) (take_past xs ys n (omega arith) ∙ ap (λ m. xs ++ take m ys) (omega arith))

-- what follows UTF-8 in UTF-8 is UTF-8
pub behind_text : (xs ys : List ℕ) → IsUtf8 xs → IsUtf8 (xs ++ ys) → IsUtf8 ys
behind_text xs ys v u =
    let cut : IsCharBoundary (xs ++ ys) (length xs) =
    IsCharBoundary-from_take (xs ++ ys) (length xs) u (rw length-append (omega arith))
    (rw (take_at xs ys (length xs) refl) v) in
    subst IsUtf8 (drop_at xs ys (length xs) refl) (IsUtf8-drop (xs ++ ys) (length xs) u cut)

pub parted_long : (p q : List ℕ) (from left : ℕ) → IsUtf8 p → from < length p → length p ≤ from + left
    → from + left ≤ length p + length q → IsUtf8 (take left (drop from (p ++ q)))
    → IsParted p q from left (length p - from)
parted_long p q from left v some h fits u =
    let n = length p - from in
    let len : length (drop from p) ≡ n = length-drop from p in
    let whole : take n (drop from p) ≡ drop from p = take_all n (drop from p) (omega arith) in
    let e : take left (drop from (p ++ q)) ≡ drop from p ++ take (left - n) q =
    rw (drop-append-le from p q (omega arith)) (take_past (drop from p) q left (omega arith)
    ∙ ap (λ m. drop from p ++ take (left - m) q) len) in
    let b = p ++ q in
    let size : length b ≡ length p + length q = length-append p q in
    let cut : IsCharBoundary p from =
    (same_cut b p from from (omega arith) some (get_or_append_left p q 0 from some)).1
    (begins_at_cut b from left (omega arith) (omega arith) u) in
    let front : IsUtf8 (drop from p) = IsUtf8-drop p from v cut in
    let both : IsUtf8 (drop from p ++ take (left - n) q) = subst IsUtf8 e u in
    let rest : IsUtf8 (take (left - n) q) = behind_text (drop from p) (take (left - n) q) front both in
    record {
      valid = rw whole front;
      rest_valid = rest;
      parts = e ∙ ap (λ l. l ++ take (left - n) q) (sym whole);
    }
