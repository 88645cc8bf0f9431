-- Tables of bytes, and the indexes that a search for them skips.
use Rattle.std.proofs.Common.{◌≡◌, ◌≢◌, ◌⊎◌, ◌↔◌, ℕ, zero, suc, ◌<◌, ◌≤◌, ◌+◌, ◌-◌, Bool, true, false, List, ◌++◌}
use Rattle.std.proofs.Common.{length, take, drop, set, get_or, replicate, IsUtf8, Contains, refl, sym, subst, ap}
use Rattle.std.proofs.Common.{◌∙◌, arith, true≢false, inl, inr, ⊎_elim, eq-or-lt_of_le, length-append, length-take}
use Rattle.std.proofs.Common.{length-drop, get_or-take, get_or-drop, take_at}
use Rattle.std.proofs.lemmas.Bool.{cases_eq, cases_lt}
use Rattle.std.proofs.lemmas.Grind.{get_or_default_zero, get_or-set_at}
use Rattle.std.proofs.lemmas.List.{get_or-set_other}
use Rattle.std.proofs.lemmas.Str.{IsUtf8-drop, IsCharBoundary-from_take}
use Rattle.memchr.specs.Find.{Nowhere, Passes}
use Rattle.tendril_fmt.proofs.SetBytes.{IsOne, one_of, is_one, no_byte}
use Rattle.tendril_fmt.specs.Sets.{has_byte, is_byte4}

-- a table of the first n of some bytes
pub record IsTableOf (bytes : List ℕ) (n : ℕ) (table : List Bool) : Type 0 where
  pub from : (b : ℕ) → has_byte table b ≡ true → Contains bytes b
  pub to : (k : ℕ) → k < n → has_byte table (get_or bytes k 0) ≡ true

pub none_yet : (bytes : List ℕ) (count : ℕ) → IsTableOf bytes 0 (replicate count false)
none_yet bytes count = record {
  from = λ b is. absurd (true≢false (sym is ∙ no_byte count b));
  to = λ k l. absurd (omega (arith, l));
}

pub one_more : (bytes : List ℕ) (n : ℕ) (table : List Bool) → n < length bytes → get_or bytes n 0 < length table
    → IsTableOf bytes n table → IsTableOf bytes (n + 1) (set table (get_or bytes n 0) true)
one_more bytes n table within room h = record {
  from = λ b is. from b is (cases_eq b (get_or bytes n 0));
  to = λ k l. to k l (cases_eq (get_or bytes k 0) (get_or bytes n 0));
}
  where
    from : (b : ℕ) → has_byte (set table (get_or bytes n 0) true) b ≡ true → (b ≡ get_or bytes n 0)
        ⊎ (b ≢ get_or bytes n 0) → Contains bytes b
    from b is (inl e) = (n, within, get_or_default_zero bytes n b within ∙ sym e)
    from b is (inr ne) = h.from b (sym (get_or-set_other table (get_or bytes n 0) b true false ne) ∙ is)

    to : (k : ℕ) → k < n + 1 → (get_or bytes k 0 ≡ get_or bytes n 0) ⊎ (get_or bytes k 0 ≢ get_or bytes n 0)
        → has_byte (set table (get_or bytes n 0) true) (get_or bytes k 0) ≡ true
    to k l (inl e) = get_or-set_at table (get_or bytes n 0) (get_or bytes k 0) true false e room
    to k l (inr ne) = get_or-set_other table (get_or bytes n 0) (get_or bytes k 0) true false ne
        ∙ h.to k (⊎_elim (λ e. absurd (ne (ap (λ j. get_or bytes j 0) e))) (λ less. less)
        (eq-or-lt_of_le (let le : k ≤ n = omega (arith, l) in le)))

pub members_of : (bytes : List ℕ) (table : List Bool) (n : ℕ) → length bytes ≤ n → IsTableOf bytes n table → (b : ℕ)
    → (has_byte table b ≡ true) ↔ Contains bytes b
members_of bytes table n all h b = (
  h.from b,
  λ c. subst (λ x. has_byte table x ≡ true) (sym (get_or_default_zero bytes c.0 b c.1) ∙ c.2)
      (h.to c.0 (let l = c.1 in omega (arith, l, all))),
)

-- sets of one to four bytes

-- each index into these bytes is one of the four
abbrev pub Covers : List ℕ → ℕ → ℕ → ℕ → ℕ → Type 0
Covers bytes i j k l = (m : ℕ) → m < length bytes → IsOne i j k l m

-- bytes as members, if the four are all their indexes
pub few : (bytes : List ℕ) (i j k l : ℕ) → Covers bytes i j k l → i < length bytes → j < length bytes
    → k < length bytes → l < length bytes → (x : ℕ)
    → (is_byte4 (get_or bytes i 0) (get_or bytes j 0) (get_or bytes k 0) (get_or bytes l 0) x ≡ true) ↔ Contains bytes x
few bytes i j k l covers wi wj wk wl x = (
  λ is. from (one_of _ _ _ _ x is),
  λ c. is_one _ _ _ _ x (to c.0 (sym c.2 ∙ get_or_default_zero bytes c.0 x c.1) (covers c.0 c.1)),
)
  where
    at : (m : ℕ) → m < length bytes → x ≡ get_or bytes m 0 → Contains bytes x
    at m within e = (m, within, get_or_default_zero bytes m x within ∙ sym e)

    from : IsOne (get_or bytes i 0) (get_or bytes j 0) (get_or bytes k 0) (get_or bytes l 0) x → Contains bytes x
    from (inl e) = at i wi e
    from (inr (inl e)) = at j wj e
    from (inr (inr (inl e))) = at k wk e
    from (inr (inr (inr e))) = at l wl e

    to : (m : ℕ) → x ≡ get_or bytes m 0 → IsOne i j k l m
        → IsOne (get_or bytes i 0) (get_or bytes j 0) (get_or bytes k 0) (get_or bytes l 0) x
    to m e (inl p) = inl (e ∙ ap (λ n. get_or bytes n 0) p)
    to m e (inr (inl p)) = inr (inl (e ∙ ap (λ n. get_or bytes n 0) p))
    to m e (inr (inr (inl p))) = inr (inr (inl (e ∙ ap (λ n. get_or bytes n 0) p)))
    to m e (inr (inr (inr p))) = inr (inr (inr (e ∙ ap (λ n. get_or bytes n 0) p)))

pub covers : (bytes : List ℕ) (j k l : ℕ) → (1 < length bytes → j ≡ 1) → (2 < length bytes → k ≡ 2)
    → (3 < length bytes → l ≡ 3) → length bytes ≤ 4 → Covers bytes 0 j k l
covers bytes j k l p q r all zero w = inl refl
covers bytes j k l p q r all (suc zero) w = inr (inl (sym (p w)))
covers bytes j k l p q r all (suc (suc zero)) w = inr (inr (inl (sym (q w))))
covers bytes j k l p q r all (suc (suc (suc zero))) w = inr (inr (inr (sym (r w))))
covers bytes j k l p q r all (suc (suc (suc (suc m)))) w = absurd (omega (arith, w, all))

-- if none of the next n bytes is one of the four, they are passed
pub passes_more : (bytes : List ℕ) (a b c d at n : ℕ) → Nowhere (Passes (is_byte4 a b c d) bytes) 0 at
    → ((k : ℕ) → k < n → is_byte4 a b c d (get_or bytes (at + k) 0) ≡ false)
    → Nowhere (Passes (is_byte4 a b c d) bytes) 0 (at + n)
passes_more bytes a b c d at n before none k low high is = ⊎_elim
    (λ l. before k low l is)
    (λ l.
    let e : at + (k - at) ≡ k = omega (arith, l) in
    let w : k - at < n = omega (arith, l, high) in
    true≢false (sym is ∙ subst (λ m. is_byte4 a b c d (get_or bytes m 0) ≡ false) e (none (k - at) w)))
    (cases_lt k at)

read_block : (bytes : List ℕ) (at n k : ℕ) → k < n → get_or (take (at + n - at) (drop at bytes)) k 0
    ≡ get_or bytes (at + k) 0
read_block bytes at n k l =
    let count : at + n - at ≡ n = omega arith in
    ap (λ m. get_or (take m (drop at bytes)) k 0) count ∙ get_or-take n (drop at bytes) k 0 l ∙ get_or-drop at bytes k 0

pub passes_block : (bytes : List ℕ) (a b c d at n : ℕ) → Nowhere (Passes (is_byte4 a b c d) bytes) 0 at
    → at + n ≤ length bytes → ((k : ℕ) → k < length (take (at + n - at) (drop at bytes))
    → is_byte4 a b c d (get_or (take (at + n - at) (drop at bytes)) k 0) ≡ false)
    → Nowhere (Passes (is_byte4 a b c d) bytes) 0 (at + n)
passes_block bytes a b c d at n before within none =
    passes_more bytes a b c d at n before
    (λ k l. subst (λ x. is_byte4 a b c d x ≡ false) (read_block bytes at n k l)
    (none k (omega (arith, l, within, length-take (at + n - at) (drop at bytes), length-drop at bytes))))

pub block_size : (bytes : List ℕ) (at n : ℕ) → at + n ≤ length bytes → length (take (at + n - at) (drop at bytes)) ≡ n
block_size bytes at n within = omega (arith, within, length-take (at + n - at) (drop at bytes), length-drop at bytes)

-- `passes_block` of the first m bytes of a block
pub passes_part : (bytes : List ℕ) (a b c d at n m : ℕ) → Nowhere (Passes (is_byte4 a b c d) bytes) 0 at → m ≤ n
    → ((k : ℕ) → k < m → is_byte4 a b c d (get_or (take (at + n - at) (drop at bytes)) k 0) ≡ false)
    → Nowhere (Passes (is_byte4 a b c d) bytes) 0 (at + m)
passes_part bytes a b c d at n m before less none =
    passes_more bytes a b c d at m before
    (λ k l. subst (λ x. is_byte4 a b c d x ≡ false) (read_block bytes at n k (omega (arith, l, less))) (none k l))

-- what follows a valid prefix is valid
pub IsUtf8-rest : (bs front : List ℕ) → IsUtf8 bs → IsUtf8 front → bs ≡ front ++ drop (length front) bs
    → IsUtf8 (drop (length front) bs)
IsUtf8-rest bs front v f e =
    let first : take (length front) bs ≡ front = ap (take (length front)) e
    ∙ take_at front (drop (length front) bs) (length front) refl in
    let within : length front ≤ length bs = omega (arith, ap length e, length-append front (drop (length front) bs)) in
    IsUtf8-drop bs (length front) v (IsCharBoundary-from_take bs (length front) v within (subst IsUtf8 (sym first) f))
