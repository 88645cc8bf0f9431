-- A byte is part of at most one sequence.
use Rattle.std.proofs.Common.{◌≡◌, ◌⊎◌, ◌↔◌, ℕ, ◌+◌, ◌-◌, ◌<◌, ◌≤◌, List, [], ◌++◌, length, slice_index, slice_range}
use Rattle.std.proofs.Common.{refl, sym, ap, subst, ◌∙◌, arith, inl, inr, ⊎_elim}
use Rattle.std.specs.Char.{encode_utf8, IsScalar}
use Rattle.std.proofs.lemmas.Bool.{cases_lt}
use Rattle.std.proofs.lemmas.Str.{encode_same}
use lib.Utf8.{scalar_cases}
use Rattle.tendril_fmt.specs.declared.futf.Codepoint.{Codepoint}
use Rattle.tendril_fmt.specs.declared.futf.Meaning.{Meaning}
use Rattle.tendril_fmt.specs.declared.futf.Meaning.TheVariants.{Whole, LeadSurrogate, TrailSurrogate, Prefix, Suffix}
use Rattle.tendril_fmt.specs.CodePoints.{IsCodePoint, sequence_len, AreContinuations, IsMeaningOf}
use Rattle.tendril_fmt.specs.Classify.{Stands, IsSequenceRound}
use Rattle.tendril_fmt.specs.Local.{StandsAccepted}
use Rattle.tendril_fmt.specs.Proved.Encodings.{IsCodePoint-scalar}
use Rattle.tendril_fmt.proofs.Sequences.{spelt_at, sequence_len-continuation}

-- a code point's bytes, or a start with too few bytes after it
abbrev Kind : List ℕ → ℕ → ℕ → Meaning → Type 0
Kind buf s n m = ((c : ℕ) × IsCodePoint c × (sequence_len (slice_index buf s) ≡ n)
    × (slice_range buf s (s + n) ≡ encode_utf8 c) × IsMeaningOf c m)
    ⊎ ((k : ℕ) × (0 < k) × (sequence_len (slice_index buf s) ≡ n + k) × (s + n ≡ length buf) × (m ≡ Prefix k))

-- a sequence with the byte at idx: continuation bytes from the beginning on, or a start and continuation bytes
abbrev Standing : List ℕ → ℕ → ℕ → ℕ → Meaning → Type 0
Standing buf idx s n m = ((s ≡ 0) × (n ≡ idx + 1) × AreContinuations buf 0 (idx + 1) × (m ≡ Suffix))
    ⊎ ((0 < sequence_len (slice_index buf s)) × AreContinuations buf (s + 1) (idx + 1) × Kind buf s n m)

module _ (buf : List ℕ) (idx s n : ℕ) where
  by_code : (m : Meaning) (c : ℕ) → s ≤ idx → idx < s + n → s + n ≤ length buf → IsCodePoint c
      → slice_range buf s (s + n) ≡ encode_utf8 c → IsMeaningOf c m → Standing buf idx s n m
  by_code m c from to within top e h =
      let at = spelt_at buf s n c top within e in
      inr (omega (arith, at.0, at.1), (λ k p q. at.2 k p (omega arith)), inl (c, top, at.1, e, h))

  standing : (m : Meaning) → Stands buf idx s n m → Standing buf idx s n m
  standing (Whole c) h = by_code (Whole c) c h.from h.to h.within (IsCodePoint-scalar c h.means.0) h.means.1
      (h.means.0, refl)
  standing (LeadSurrogate i) h = by_code (LeadSurrogate i) (0xD800 + i) h.from h.to h.within
      (omega (arith, h.means.0)) h.means.1 (h.means.0, refl)
  standing (TrailSurrogate i) h = by_code (TrailSurrogate i) (0xDC00 + i) h.from h.to h.within
      (omega (arith, h.means.0)) h.means.1 (h.means.0, refl)
  standing (Prefix k) h = let wide = h.means.1 in let pos = h.means.0 in
      inr (omega arith, h.means.3, inr (k, h.means.0, h.means.1, h.means.2, refl))
  standing Suffix h = inl (h.means.0, h.means.1, subst (AreContinuations buf 0) h.means.1 h.means.3, refl)

-- a code point has one meaning
pub one_meaning : (c : ℕ) (m k : Meaning) → IsMeaningOf c m → IsMeaningOf c k → m ≡ k
one_meaning c (Whole x) (Whole y) h j = ap Whole (h.1 ∙ sym j.1)
one_meaning c (Whole x) (LeadSurrogate i) h j = apart c i h.0 j.0 j.1
  where
    apart : (c i : ℕ) → IsScalar c → i < 0x400 → c ≡ 0xD800 + i → Whole x ≡ LeadSurrogate i
    apart c i s a b = absurd (⊎_elim (λ p. omega arith) (λ p. let q = p.0 in omega arith) (scalar_cases c s))
one_meaning c (Whole x) (TrailSurrogate i) h j = apart c i h.0 j.0 j.1
  where
    apart : (c i : ℕ) → IsScalar c → i < 0x400 → c ≡ 0xDC00 + i → Whole x ≡ TrailSurrogate i
    apart c i s a b = absurd (⊎_elim (λ p. omega arith) (λ p. let q = p.0 in omega arith) (scalar_cases c s))
one_meaning c (LeadSurrogate i) (Whole x) h j = sym (one_meaning_rev c i x h j)
  where
    one_meaning_rev : (c i x : ℕ) → IsMeaningOf c (LeadSurrogate i) → IsMeaningOf c (Whole x)
        → Whole x ≡ LeadSurrogate i
    one_meaning_rev c i x h j = let a = h.0 in let b = h.1 in
        absurd (⊎_elim (λ p. omega arith) (λ p. let q = p.0 in omega arith) (scalar_cases c j.0))
one_meaning c (LeadSurrogate i) (LeadSurrogate k) h j = let a = h.1 in let b = j.1 in ap LeadSurrogate (omega arith)
one_meaning c (LeadSurrogate i) (TrailSurrogate k) h j = let a = h.1 in let b = j.1 in let x = h.0 in
    absurd (omega arith)
one_meaning c (TrailSurrogate i) (Whole x) h j = let a = h.0 in let b = h.1 in
    absurd (⊎_elim (λ p. omega arith) (λ p. let q = p.0 in omega arith) (scalar_cases c j.0))
one_meaning c (TrailSurrogate i) (LeadSurrogate k) h j = let a = h.1 in let b = j.1 in let x = j.0 in
    absurd (omega arith)
one_meaning c (TrailSurrogate i) (TrailSurrogate k) h j = let a = h.1 in let b = j.1 in ap TrailSurrogate (omega arith)
one_meaning c (Prefix i) k h j = absurd h
one_meaning c Suffix k h j = absurd h
one_meaning c m (Prefix i) h j = absurd j
one_meaning c m Suffix h j = absurd j

module _ (buf : List ℕ) (idx : ℕ) where
  never : (s : ℕ) (a b : ℕ) → AreContinuations buf a b → a ≤ s → s < b → 0 < sequence_len (slice_index buf s) → ⊥
  never s a b h p q some = let none = sequence_len-continuation _ (h s p q) in absurd (omega arith)

  same_start : (s t : ℕ) → s ≤ idx → t ≤ idx → 0 < sequence_len (slice_index buf s)
      → 0 < sequence_len (slice_index buf t) → AreContinuations buf (s + 1) (idx + 1)
      → AreContinuations buf (t + 1) (idx + 1) → s ≡ t
  same_start s t p q a b h j = ⊎_elim
      (λ (l : s < t). absurd (never t (s + 1) (idx + 1) h (omega arith) (omega arith) b))
      (λ (l : t ≤ s). ⊎_elim
      (λ (r : t < s). absurd (never s (t + 1) (idx + 1) j (omega arith) (omega arith) a))
      (λ (r : s ≤ t). omega arith)
      (cases_lt t s))
      (cases_lt s t)

  same_kind : (s n r : ℕ) (m k : Meaning) → s + n ≤ length buf → s + r ≤ length buf → Kind buf s n m → Kind buf s r k
      → (n ≡ r) × (m ≡ k)
  same_kind s n r m k p q (inl a) (inl b) =
      let e : n ≡ r = sym a.2 ∙ b.2 in
      let spelt = sym a.3 ∙ ap (λ j. slice_range buf s (s + j)) e ∙ b.3 in
      let code = encode_same a.0 b.0 [] [] (ap (λ l. l ++ []) spelt) in
      (e, one_meaning a.0 m k a.4 (subst (λ c. IsMeaningOf c k) (sym code.0) b.4))
  same_kind s n r m k p q (inl a) (inr b) = let x = a.2 in let y = b.1 in let z = b.2 in let w = b.3 in
      absurd (omega arith)
  same_kind s n r m k p q (inr b) (inl a) = let x = a.2 in let y = b.1 in let z = b.2 in let w = b.3 in
      absurd (omega arith)
  same_kind s n r m k p q (inr a) (inr b) =
      let x = a.2 in let y = a.3 in let z = b.2 in let w = b.3 in
      let e : n ≡ r = omega arith in
      let f : a.0 ≡ b.0 = omega arith in
      (e, a.4 ∙ ap Prefix f ∙ sym b.4)

  both_stand : (s n t r : ℕ) (m k : Meaning) → Stands buf idx s n m → Stands buf idx t r k → Standing buf idx s n m
      → Standing buf idx t r k → (s ≡ t) × (n ≡ r) × (m ≡ k)
  both_stand s n t r m k h j (inl a) (inl b) = (a.0 ∙ sym b.0, a.1 ∙ sym b.1, a.3 ∙ sym b.3)
  both_stand s n t r m k h j (inl a) (inr b) = let p = j.from in
      absurd (never t 0 (idx + 1) a.2 (omega arith) (omega arith) b.0)
  both_stand s n t r m k h j (inr b) (inl a) = let p = h.from in
      absurd (never s 0 (idx + 1) a.2 (omega arith) (omega arith) b.0)
  both_stand s n t r m k h j (inr a) (inr b) =
      let e = same_start s t h.from j.from a.0 b.0 a.1 b.1 in
      let q = same_kind s n r m k h.within (subst (λ i. i + r ≤ length buf) (sym e) j.within) a.2
      (subst (λ i. Kind buf i r k) (sym e) b.2) in
      (e, q.0, q.1)

  -- the sequence that a byte is part of is unique, and so is its meaning
  pub one_class : (s n t r : ℕ) (m k : Meaning) → Stands buf idx s n m → Stands buf idx t r k
      → (s ≡ t) × (n ≡ r) × (m ≡ k)
  one_class s n t r m k h j = both_stand s n t r m k h j (standing buf idx s n m h) (standing buf idx t r k j)

  -- so the meaning that was found is accepted exactly if the byte is part of an accepted sequence
  pub accepts-round : (P : Meaning → Type 0) (found : Codepoint) → IsSequenceRound buf idx found → P found.meaning
      ↔ StandsAccepted P buf idx
  accepts-round P found h = (
    (λ p. (idx - found.rewind, length found.bytes.now, found.meaning, h.stands, p)),
    (λ w. subst P (one_class _ _ _ _ _ _ w.3 h.stands).2 w.4),
  )
