-- Which sequence a byte is part of.
use Rattle.std.specs.Prelude.{◌≡◌, ℕ, ◌+◌, ◌-◌, ◌<◌, ◌≤◌, List, length, slice_index, slice_range, encode_utf8}
use Rattle.std.specs.Char.{IsScalar}
use Rattle.tendril_fmt.specs.declared.futf.Codepoint.{Codepoint}
use Rattle.tendril_fmt.specs.declared.futf.Meaning.{Meaning}
use Rattle.tendril_fmt.specs.declared.futf.Meaning.TheVariants.{Whole, LeadSurrogate, TrailSurrogate, Prefix, Suffix}
use Rattle.tendril_fmt.specs.CodePoints.{sequence_len, AreContinuations}

-- What the n bytes at s mean, one of which is at idx: the encoding of a code point; the start of a sequence that
-- continues past the end of the bytes; or at most three continuation bytes at the beginning, up to idx.
abbrev pub Means : List ℕ → ℕ → ℕ → ℕ → Meaning → Type 0
Means bytes idx s n (Whole c) = IsScalar c × (slice_range bytes s (s + n) ≡ encode_utf8 c)
Means bytes idx s n (LeadSurrogate i) = (i < 0x400) × (slice_range bytes s (s + n) ≡ encode_utf8 (0xD800 + i))
Means bytes idx s n (TrailSurrogate i) = (i < 0x400) × (slice_range bytes s (s + n) ≡ encode_utf8 (0xDC00 + i))
Means bytes idx s n (Prefix k) =
    (0 < k) × (sequence_len (slice_index bytes s) ≡ n + k) × (s + n ≡ length bytes)
    × AreContinuations bytes (s + 1) (idx + 1)
Means bytes idx s n Suffix = (s ≡ 0) × (n ≡ idx + 1) × (n ≤ 3) × AreContinuations bytes 0 n

-- there is a sequence of n bytes at s with this meaning, and the byte at idx is part of it
pub record Stands (bytes : List ℕ) (idx s n : ℕ) (m : Meaning) : Type 0 where
  pub from : s ≤ idx
  pub to : idx < s + n
  pub within : s + n ≤ length bytes
  pub means : Means bytes idx s n m

-- the byte at idx is part of no sequence
abbrev pub NoneStands : List ℕ → ℕ → Type 0
NoneStands bytes idx = (s n : ℕ) (m : Meaning) → ¬ (Stands bytes idx s n m)

-- `found` is a sequence that the byte at idx is part of
pub record IsSequenceRound (bytes : List ℕ) (idx : ℕ) (found : Codepoint) : Type 0 where
  pub rewind : found.rewind ≤ idx
  pub bytes_are : found.bytes.now ≡ slice_range bytes (idx - found.rewind) (idx - found.rewind + length found.bytes.now)
  pub stands : Stands bytes idx (idx - found.rewind) (length found.bytes.now) found.meaning

-- a byte is part of at most one sequence, which has one meaning
abbrev pub OneStands : Type 0
OneStands = (bytes : List ℕ) (idx s n t r : ℕ) (m k : Meaning) → Stands bytes idx s n m → Stands bytes idx t r k
    → (s ≡ t) × (n ≡ r) × (m ≡ k)
