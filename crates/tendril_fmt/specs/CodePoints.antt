-- Code points and the bytes of their encodings, by `encode_utf8`, which covers the surrogates too.
use Rattle.std.specs.Prelude.{
  ◌≡◌,
  ◌≢◌,
  ℕ,
  ◌+◌,
  ◌<◌,
  ◌≤◌,
  List,
  ◌++◌,
  Option,
  MatchOption,
  slice_index,
  nat_lt,
  if◌then◌else◌,
  encode_utf8,
}
use Rattle.std.specs.Char.{IsScalar}
use Rattle.tendril_fmt.specs.declared.futf.Meaning.{Meaning}
use Rattle.tendril_fmt.specs.declared.futf.Meaning.TheVariants.{Whole, LeadSurrogate, TrailSurrogate, Prefix, Suffix}

-- a code point of Unicode, a surrogate or not
abbrev pub IsCodePoint : ℕ → Type 0
IsCodePoint c = c < 0x11_0000

-- a continuation byte: one that continues a sequence
abbrev pub IsContinuation : ℕ → Type 0
IsContinuation b = (0x80 ≤ b) × (b < 0xC0)

-- how many bytes a sequence has that begins with this byte, or 0 if none does
abbrev pub sequence_len : ℕ → ℕ
sequence_len b = if nat_lt b 0x80 then 1 else (if nat_lt b 0xC0 then 0 else (if nat_lt b 0xE0 then 2
    else (if nat_lt b 0xF0 then 3 else (if nat_lt b 0xF8 then 4 else 0))))

-- the bytes from i on, before j, are continuation bytes
abbrev pub AreContinuations : List ℕ → ℕ → ℕ → Type 0
AreContinuations bytes i j = (k : ℕ) → i ≤ k → k < j → IsContinuation (slice_index bytes k)

-- the meaning of the code point c: of a surrogate, its index among the leads or the trails, of any other, the character
abbrev pub IsMeaningOf : ℕ → Meaning → Type 0
IsMeaningOf c (Whole d) = IsScalar c × (d ≡ c)
IsMeaningOf c (LeadSurrogate i) = (i < 0x400) × (c ≡ 0xD800 + i)
IsMeaningOf c (TrailSurrogate i) = (i < 0x400) × (c ≡ 0xDC00 + i)
IsMeaningOf c (Prefix k) = ⊥
IsMeaningOf c Suffix = ⊥

-- the bytes encode no code point
abbrev pub EncodeNone : List ℕ → Type 0
EncodeNone bytes = (c : ℕ) → IsCodePoint c → bytes ≢ encode_utf8 c

-- the code point, if there is one, that the bytes encode
abbrev pub IsDecoded : List ℕ → Option ℕ → Type 0
IsDecoded bytes found = MatchOption found (EncodeNone bytes) (λ c. IsCodePoint c × (bytes ≡ encode_utf8 c))

-- the bytes encode a code point of this meaning
abbrev pub Encode : List ℕ → Meaning → Type 0
Encode bytes m = (c : ℕ) × IsCodePoint c × (bytes ≡ encode_utf8 c) × IsMeaningOf c m

-- the bytes begin with those of no code point
abbrev pub SplitsIntoNone : List ℕ → Type 0
SplitsIntoNone bytes = (c : ℕ) (rest : List ℕ) → IsCodePoint c → bytes ≢ encode_utf8 c ++ rest

-- the bytes begin with those of a code point of this meaning, and `rest` follows
abbrev pub SplitsInto : List ℕ → Meaning → List ℕ → Type 0
SplitsInto bytes m rest = (c : ℕ) × IsCodePoint c × (bytes ≡ encode_utf8 c ++ rest) × IsMeaningOf c m

-- the bytes end with those of the code point c
abbrev pub EndsWithCodePoint : List ℕ → ℕ → Type 0
EndsWithCodePoint bytes c = (front : List ℕ) × (bytes ≡ front ++ encode_utf8 c)

-- the bytes begin with those of the code point c
abbrev pub BeginsWithCodePoint : List ℕ → ℕ → Type 0
BeginsWithCodePoint bytes c = (rest : List ℕ) × (bytes ≡ encode_utf8 c ++ rest)
