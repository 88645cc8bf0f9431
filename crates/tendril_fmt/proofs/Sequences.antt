-- Where the sequence that a byte is part of begins, and how long it is.
use Rattle.std.proofs.Common.{◌≡◌, ◌⊎◌, ℕ, ◌+◌, ◌-◌, ◌<◌, ◌≤◌, List, [], ◌∷◌, length, slice_index, slice_range, take}
use Rattle.std.proofs.Common.{drop, get_or-take, get_or-drop, length-drop, length-take-le, sym, ap, subst, ◌∙◌, arith}
use Rattle.std.proofs.Common.{inl, inr, ⊎_elim}
use Rattle.std.specs.Char.{encode_utf8}
use Rattle.std.proofs.lemmas.Bool.{cases_lt}
use Rattle.std.proofs.lemmas.Bool.Decides.{nat_tests}
use Rattle.tendril_fmt.specs.declared.futf.Meaning.{Meaning}
use Rattle.tendril_fmt.specs.declared.futf.Meaning.TheVariants.{Whole, LeadSurrogate, TrailSurrogate, Prefix, Suffix}
use Rattle.tendril_fmt.specs.CodePoints.{IsCodePoint, IsContinuation, sequence_len, AreContinuations}
use Rattle.tendril_fmt.specs.Classify.{Stands, NoneStands}
use Rattle.tendril_fmt.specs.Proved.Encodings.{IsCodePoint-scalar}
use Rattle.tendril_fmt.specs.Proved.Cuts.{IsStart, IsStart-encode}

-- a continuation byte starts no sequence
pub sequence_len-continuation : (b : ℕ) → IsContinuation b → sequence_len b ≡ 0
sequence_len-continuation b h = let l = h.0 in let m = h.1 in grind (arith, nat_tests)

module _ (buf : List ℕ) (s n : ℕ) (within : s + n ≤ length buf) where
  -- the length of a slice, and its bytes
  pub length-part : length (slice_range buf s (s + n)) ≡ n
  length-part = let e : s + n - s ≡ n = omega arith in ap (λ k. length (take k (drop s buf))) e
      ∙ length-take-le n (drop s buf) (omega (arith, length-drop s buf))

  pub part_at : (k : ℕ) → k < n → slice_index (slice_range buf s (s + n)) k ≡ slice_index buf (s + k)
  part_at k lt = let e : k < s + n - s = omega arith in get_or-take (s + n - s) (drop s buf) k 0 e
      ∙ get_or-drop s buf k 0

-- the bytes of a code point in buf are a start and continuation bytes
pub spelt_at : (buf : List ℕ) (s n c : ℕ) → IsCodePoint c → s + n ≤ length buf → slice_range buf s (s + n)
    ≡ encode_utf8 c
    → (0 < n) × (sequence_len (slice_index buf s) ≡ n) × AreContinuations buf (s + 1) (s + n)
spelt_at buf s n c top within e =
    let part = slice_range buf s (s + n) in
    let is : IsStart part = subst IsStart (sym e) (IsStart-encode c top) in
    let long = length-part buf s n within in
    let some : 0 < n = ⊎_elim (λ z. let none : length part ≡ 0 = omega arith in absurd (empty part none is)) (λ p. p)
    (cases_lt n 1) in
    let first : slice_index part 0 ≡ slice_index buf s = part_at buf s n within 0 some
    ∙ ap (slice_index buf) (omega arith) in (
      some,
      ap sequence_len (sym first) ∙ is.0 ∙ long,
      λ k p q.
          let same : s + (k - s) ≡ k = omega arith in
          let there : slice_index part (k - s) ≡ slice_index buf k = part_at buf s n within (k - s) (omega arith)
          ∙ ap (slice_index buf) same in
          subst IsContinuation there (is.1 (k - s) (omega arith) (omega arith)),
    )
  where
    empty : (l : List ℕ) → length l ≡ 0 → IsStart l → ⊥
    empty [] z is = absurd (omega (arith, is.0))
    empty (x ∷ l) z is = omega arith

-- a sequence of n bytes from `start` on: a code point, or a start with too few bytes after it
abbrev pub Sequence : List ℕ → ℕ → ℕ → ℕ → Type 0
Sequence buf idx start n = (idx < start + n) × (start + n ≤ length buf)
    × (((sequence_len (slice_index buf start) ≡ n)
    × ((c : ℕ) × IsCodePoint c × (slice_range buf start (start + n) ≡ encode_utf8 c)))
    ⊎ ((start + n ≡ length buf) × (n < sequence_len (slice_index buf start))))

module _ (buf : List ℕ) (idx start : ℕ) (le : start ≤ idx) (no : ¬ (IsContinuation (slice_index buf start)))
    (rest : AreContinuations buf (start + 1) (idx + 1)) where
  -- a sequence with the byte at idx begins at `start`
  begins : (s : ℕ) → s ≤ idx → 0 < sequence_len (slice_index buf s)
      → (start < idx + 1 → s < start → IsContinuation (slice_index buf start)) → s ≡ start
  begins s from some over = ⊎_elim
      (λ (p : s < start). absurd (no (over (omega arith) p)))
      (λ (p : start ≤ s). ⊎_elim
      (λ (q : start < s). absurd (omega (arith, sequence_len-continuation _ (rest s (omega arith) (omega arith)))))
      (λ (q : s ≤ start). omega arith)
      (cases_lt start s))
      (cases_lt s start)

  by_spelt : (s n c : ℕ) → s ≤ idx → idx < s + n → s + n ≤ length buf → IsCodePoint c → slice_range buf s (s + n)
      ≡ encode_utf8 c → Sequence buf idx start n
  by_spelt s n c from to within top e =
      let at = spelt_at buf s n c top within e in
      let same : s ≡ start = begins s from (omega (arith, at.0, at.1))
      (λ p q. at.2 start (omega arith) (omega arith)) in
      subst (λ k. Sequence buf idx k n) same (to, within, inl (at.1, (c, top, e)))

  -- each sequence with the byte at idx is one that begins at `start`
  pub sequence_of : (s n : ℕ) (m : Meaning) → Stands buf idx s n m → Sequence buf idx start n
  sequence_of s n (Whole c) h = by_spelt s n c h.from h.to h.within (IsCodePoint-scalar c h.means.0) h.means.1
  sequence_of s n (LeadSurrogate i) h =
      by_spelt s n (0xD800 + i) h.from h.to h.within (omega (arith, h.means.0)) h.means.1
  sequence_of s n (TrailSurrogate i) h =
      by_spelt s n (0xDC00 + i) h.from h.to h.within (omega (arith, h.means.0)) h.means.1
  sequence_of s n (Prefix k) h =
      let from = h.from in let to = h.to in
      let wide = h.means.1 in
      let pos = h.means.0 in
      let same : s ≡ start = begins s from (omega arith) (λ p q. h.means.3 start (omega arith) p) in
      subst (λ j. Sequence buf idx j n) same (to, h.within, inr (h.means.2, omega arith))
  sequence_of s n Suffix h = let long = h.means.1 in absurd (no (h.means.3 start (omega arith) (omega arith)))

-- no sequence has more than four bytes
pub sequence_len-le : (b : ℕ) → sequence_len b ≤ 4
sequence_len-le b = grind (arith, nat_tests)

-- a byte that is the last of four continuation bytes is part of no sequence
module _ (buf : List ℕ) (idx : ℕ) (far : 3 ≤ idx) (rest : AreContinuations buf (idx - 3) (idx + 1)) where
  too_far : (s n : ℕ) → s ≤ idx → idx < s + n → 0 < sequence_len (slice_index buf s)
      → n ≤ sequence_len (slice_index buf s) → ⊥
  too_far s n from to some fits = let top = sequence_len-le (slice_index buf s) in
      absurd (omega (arith, sequence_len-continuation _ (rest s (omega arith) (omega arith))))

  by_code : (s n c : ℕ) → s ≤ idx → idx < s + n → s + n ≤ length buf → IsCodePoint c → slice_range buf s (s + n)
      ≡ encode_utf8 c → ⊥
  by_code s n c from to within top e = let at = spelt_at buf s n c top within e in
      too_far s n from to (omega (arith, at.0, at.1)) (omega (arith, at.1))

  -- so the byte at idx is part of none
  pub none_far : NoneStands buf idx
  none_far s n (Whole c) h = by_code s n c h.from h.to h.within (IsCodePoint-scalar c h.means.0) h.means.1
  none_far s n (LeadSurrogate i) h = by_code s n (0xD800 + i) h.from h.to h.within (omega (arith, h.means.0)) h.means.1
  none_far s n (TrailSurrogate i) h = by_code s n (0xDC00 + i) h.from h.to h.within (omega (arith, h.means.0)) h.means.1
  none_far s n (Prefix k) h = let wide = h.means.1 in let pos = h.means.0 in
      too_far s n h.from h.to (omega arith) (omega arith)
  none_far s n Suffix h = let long = h.means.1 in let few = h.means.2 in omega arith
