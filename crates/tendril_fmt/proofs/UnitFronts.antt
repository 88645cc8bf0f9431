-- The units of characters of equally many bytes at the front of valid WTF-8.
use Rattle.std.proofs.Common.{◌≡◌, ℕ, zero, suc, ◌+◌, ◌*◌, ◌/◌, ◌%◌, ◌-◌, ◌<◌, ◌≤◌, List, [], ◌∷◌, ◌++◌}
use Rattle.std.proofs.Common.{length, take, drop}
use Rattle.std.proofs.Common.{get_or, slice_index, refl, sym, ap, ap₂, subst, ◌∙◌, arith, append_assoc, inl, inr}
use Rattle.std.proofs.lemmas.Bool.{cases_lt}
use Rattle.std.specs.List.{AllByRecursion}
use Rattle.std.specs.Char.Escape.{encode_utf16}
use Rattle.std.proofs.lemmas.List.{drop-drop, get_or-drop, length-drop, take_more}
use Rattle.std.specs.Simd.Lanes.{chunk}
use Rattle.std.proofs.lemmas.Simd.{get_or-chunk}
use Rattle.tendril_fmt.specs.Units.{LeadsTwo, LeadsThree, LeadsFour, code_of_two, code_of_three, code_of_four}
use Rattle.tendril_fmt.specs.Units.{PushesFront}
use Rattle.tendril_fmt.specs.Wtf8.{IsWtf8, units}
use Rattle.tendril_fmt.specs.Proved.Units.{one_unit, two_units}
use Rattle.tendril_fmt.proofs.Seams.{rest_slice}
use Rattle.tendril_fmt.proofs.UnitSplits.{First, First-holds, SplitsAt}

-- `us` are the units of the first n bytes
pub record IsFront (bytes : List ℕ) (n : ℕ) (us : List ℕ) : Type 0 where
  pub rest_valid : IsWtf8 (drop n bytes)
  pub spelt : units bytes ≡ us ++ units (drop n bytes)

pub front_none : (bytes us : List ℕ) → IsWtf8 bytes → IsFront bytes 0 (take 0 us)
front_none bytes us w = record { rest_valid = w; spelt = refl }

-- a code point more
pub front_more : (bytes us vs : List ℕ) (p n c : ℕ) → IsFront bytes p us → SplitsAt (drop p bytes) c n
    → encode_utf16 c ≡ vs
    → IsFront bytes (p + n) (us ++ vs)
front_more bytes us vs p n c h s e =
    let rest : take (length (drop p bytes) - n) (drop n (drop p bytes)) ≡ drop (p + n) bytes =
    rest_slice (drop p bytes) n ∙ drop-drop n p bytes in
    record {
      rest_valid = subst IsWtf8 rest s.splits.rest_valid;
      spelt =
          h.spelt ∙ ap (λ l. us ++ l) (s.splits.spelt ∙ ap₂ (λ x y. x ++ units y) e rest)
          ∙ sym (append_assoc us vs (units (drop (p + n) bytes)));
    }

abbrev pub FirstFrom : List ℕ → ℕ → Type 0
FirstFrom bytes p = First (drop p bytes) (slice_index bytes p) (slice_index bytes (p + 1)) (slice_index bytes (p + 2))
    (slice_index bytes (p + 3))

pub first_from : (bytes us : List ℕ) (p : ℕ) → IsFront bytes p us → p < length bytes → FirstFrom bytes p
first_from bytes us p h lt =
    let at : (i : ℕ) → slice_index (drop p bytes) i ≡ slice_index bytes (p + i) = λ i. get_or-drop p bytes i 0 in
    let here : slice_index (drop p bytes) 0 ≡ slice_index bytes p =
    at 0 ∙ ap (λ i. slice_index bytes i) (omega arith) in
    let some : 0 < length (drop p bytes) = omega (arith, length-drop p bytes) in
    let rest = drop p bytes in
    subst (λ d. First rest (slice_index bytes p) (slice_index bytes (p + 1)) (slice_index bytes (p + 2)) d) (at 3)
    (subst (λ c. First rest (slice_index bytes p) (slice_index bytes (p + 1)) c (slice_index rest 3)) (at 2)
    (subst (λ b. First rest (slice_index bytes p) b (slice_index rest 2) (slice_index rest 3)) (at 1)
    (subst (λ a. First rest a (slice_index rest 1) (slice_index rest 2) (slice_index rest 3)) here
    (First-holds rest h.rest_valid some))))

from_steps : (bytes : List ℕ) (p : ℕ → ℕ) (us : ℕ → List ℕ) (n : ℕ) → IsFront bytes (p 0) (us 0)
    → ((k : ℕ) → k < n → IsFront bytes (p k) (us k) → IsFront bytes (p (suc k)) (us (suc k)))
    → IsFront bytes (p n) (us n)
from_steps bytes p us zero none more = none
from_steps bytes p us (suc n) none more =
    more n (omega arith) (from_steps bytes p us n none (λ k lt. more k (omega arith)))

-- one unit more of a vector
one_more : (bytes us : List ℕ) (p n q k c : ℕ) → p + n ≡ q → k < length us → c < 0x1_0000 → get_or us k 0 ≡ c
    → IsFront bytes p (take k us) → SplitsAt (drop p bytes) c n → IsFront bytes q (take (suc k) us)
one_more bytes us p n q k c to lt small is h s =
    subst (λ q. IsFront bytes q (take (suc k) us)) to
    (subst (IsFront bytes (p + n)) (sym (take_suc us k lt))
    (front_more bytes (take k us) (get_or us k 0 ∷ []) p n c h s (one_unit c small ∙ ap (λ u. u ∷ []) (sym is))))
  where
    take_suc : (us : List ℕ) (k : ℕ) → k < length us → take (suc k) us ≡ take k us ++ get_or us k 0 ∷ []
    take_suc us k lt = let same : suc k ≡ k + 1 = omega arith in ap (λ n. take n us) same ∙ take_more us k 0 lt

-- the bytes of a block that is read at the front
pub block_byte : (bytes : List ℕ) (k : ℕ) → k < 16 → slice_index (chunk 0 16 bytes) k ≡ slice_index bytes k
block_byte bytes k lt = get_or-chunk 0 16 bytes k 0 lt ∙ ap (λ i. get_or bytes i 0) (omega arith)

-- Characters of a block, by the lanes of their first bytes and of their units.
module _ (bytes us : List ℕ) (n : ℕ) (valid : IsWtf8 bytes) (enough : 16 ≤ length bytes) where
  abbrev byte : ℕ → ℕ
  byte k = slice_index (chunk 0 16 bytes) k

  at : (k : ℕ) → k < 16 → byte k ≡ slice_index bytes k
  at k lt = block_byte bytes k lt

  pub front_ascii : n ≤ 16 → n ≤ length us → ((k : ℕ) → k < n → byte k < 0x80)
      → ((k : ℕ) → k < n → get_or us k 0 ≡ byte k)
      → IsFront bytes n (take n us)
  front_ascii few room low is =
      from_steps bytes (λ k. k) (λ k. take k us) n (front_none bytes us valid) (λ k lt h.
      let first = first_from bytes (take k us) k h (omega arith) in
      let here = at k (omega arith) in
      let small = low k lt in
      one_more bytes us k 1 (suc k) k _ (omega arith) (omega arith) (omega (arith, small, here)) (is k lt ∙ here) h
      (first.one (omega (arith, small, here))))

  pub front_twos : n ≤ 8 → n ≤ length us → ((k : ℕ) → k < n → LeadsTwo (byte (2 * k)))
      → ((k : ℕ) → k < n → get_or us k 0 ≡ code_of_two (byte (2 * k)) (byte (2 * k + 1)))
      → IsFront bytes (2 * n) (take n us)
  front_twos few room leads is =
      from_steps bytes (λ k. 2 * k) (λ k. take k us) n (front_none bytes us valid) (λ k lt h.
      let first = first_from bytes (take k us) (2 * k) h (omega arith) in
      let a = at (2 * k) (omega arith) in
      let b = at (2 * k + 1) (omega arith) in
      let lead = leads k lt in
      one_more bytes us (2 * k) 2 (2 * suc k) k _ (omega arith) (omega arith) (omega arith)
      (is k lt ∙ ap₂ code_of_two a b) h
      (first.two (omega (arith, lead.0, a)) (omega (arith, lead.1, a))))

  pub front_threes : n ≤ 5 → n ≤ length us → ((k : ℕ) → k < n → LeadsThree (byte (3 * k)))
      → ((k : ℕ) → k < n → get_or us k 0 ≡ code_of_three (byte (3 * k)) (byte (3 * k + 1)) (byte (3 * k + 2)))
      → IsFront bytes (3 * n) (take n us)
  front_threes few room leads is =
      from_steps bytes (λ k. 3 * k) (λ k. take k us) n (front_none bytes us valid) (λ k lt h.
      let first = first_from bytes (take k us) (3 * k) h (omega arith) in
      let a = at (3 * k) (omega arith) in
      let b = at (3 * k + 1) (omega arith) in
      let c = at (3 * k + 2) (omega arith) in
      let lead = leads k lt in
      one_more bytes us (3 * k) 3 (3 * suc k) k _ (omega arith) (omega arith) (omega arith)
      (is k lt ∙ ap₂ (λ x y. code_of_three x y (byte (3 * k + 2))) a b
      ∙ ap (code_of_three (slice_index bytes (3 * k)) (slice_index bytes (3 * k + 1))) c) h
      (first.three (omega (arith, lead.0, a)) (omega (arith, lead.1, a))))

  abbrev four_at : ℕ → ℕ
  four_at k = code_of_four (byte (4 * k)) (byte (4 * k + 1)) (byte (4 * k + 2)) (byte (4 * k + 3))

  pub front_fours : n ≤ 4 → 2 * n ≤ length us → ((k : ℕ) → k < n → LeadsFour (byte (4 * k)))
      → ((k : ℕ) → k < n → get_or us (2 * k) 0 + 0x40 ≡ 0xD800 + four_at k / 0x400)
      → ((k : ℕ) → k < n → get_or us (2 * k + 1) 0 ≡ 0xDC00 + four_at k % 0x400)
      → IsFront bytes (4 * n) (take (2 * n) us)
  front_fours few room leads high low =
      from_steps bytes (λ k. 4 * k) (λ k. take (2 * k) us) n (front_none bytes us valid) (λ k lt h.
      let first = first_from bytes (take (2 * k) us) (4 * k) h (omega arith) in
      let a = at (4 * k) (omega arith) in
      let b = at (4 * k + 1) (omega arith) in
      let d = at (4 * k + 2) (omega arith) in
      let e = at (4 * k + 3) (omega arith) in
      let c =
      code_of_four (slice_index bytes (4 * k)) (slice_index bytes (4 * k + 1)) (slice_index bytes (4 * k + 2))
      (slice_index bytes (4 * k + 3)) in
      let same : four_at k ≡ c = cc (a, b, d, e) in
      let lead = leads k lt in
      let far = first.far (omega (arith, lead, a)) in
      let x = get_or us (2 * k) 0 in
      let y = get_or us (2 * k + 1) 0 in
      let one : 0xD800 + (c - 0x1_0000) / 0x400 ≡ x = omega (arith, far, high k lt, same) in
      let other : 0xDC00 + (c - 0x1_0000) % 0x400 ≡ y = omega (arith, far, low k lt, same) in
      let more =
      front_more bytes (take (2 * k) us) (x ∷ y ∷ []) (4 * k) 4 c h (first.four (omega (arith, lead, a)))
      (two_units c far ∙ ap₂ (λ x y. x ∷ y ∷ []) one other) in
      let to : 4 * k + 4 ≡ 4 * suc k = omega arith in
      let two : 2 * suc k ≡ 2 * k + 1 + 1 = omega arith in
      let taken : take (2 * suc k) us ≡ take (2 * k) us ++ x ∷ y ∷ [] =
      ap (λ n. take n us) two ∙ take_more us (2 * k + 1) 0 (omega arith)
      ∙ ap (λ l. l ++ y ∷ []) (take_more us (2 * k) 0 (omega arith))
      ∙ append_assoc (take (2 * k) us) (x ∷ []) (y ∷ []) in
      subst (λ q. IsFront bytes q (take (2 * suc k) us)) to (subst (IsFront bytes (4 * k + 4)) (sym taken) more))

pub pushes : (old new bytes us : List ℕ) (n : ℕ) → 0 < n → n ≤ length bytes → IsFront bytes n us → new ≡ old ++ us
    → PushesFront old new bytes (take (length bytes - n) (drop n bytes))
pushes old new bytes us n some within h e =
    subst (PushesFront old new bytes) (sym (rest_slice bytes n)) (record {
      shorter = omega (arith, length-drop n bytes);
      rest_valid = h.rest_valid;
      items =
          ap (λ l. l ++ units (drop n bytes)) e ∙ append_assoc old us (units (drop n bytes))
          ∙ ap (λ l. old ++ l) (sym h.spelt);
    })

-- each byte of ASCII
pub ascii_byte : (bytes : List ℕ) (k : ℕ) → AllByRecursion (λ b. b < 0x80) bytes → slice_index bytes k < 0x80
ascii_byte [] k h = omega arith
ascii_byte (b ∷ bytes) zero h = h.0
ascii_byte (b ∷ bytes) (suc k) h = ascii_byte bytes k h.1

-- A count that stops where P doesn't hold isn't 0, if P holds there.
pub some_counted : (P : ℕ → Type 0) (n r : ℕ) → 0 < n → (r < n → ¬ (P r)) → P 0 → 0 < r
some_counted P n r some stops first = elim (cases_lt 0 r) [
  | inl lt ↦ lt
  | inr le ↦ let none : 0 ≡ r = omega arith in absurd (stops (omega arith) (subst P none first))
]
