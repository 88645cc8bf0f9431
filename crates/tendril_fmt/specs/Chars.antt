-- The characters of a text: their encodings one after another, and the offset of each.
use Rattle.std.specs.Prelude.{
  ◌≡◌,
  ℕ,
  ◌+◌,
  ◌-◌,
  ◌^◌,
  ◌<◌,
  ◌≤◌,
  List,
  [],
  ◌∷◌,
  ◌++◌,
  length,
  take,
  drop,
  replicate,
  IsUtf8,
}
use Rattle.std.specs.List.{flat_map}

-- the encodings of characters, one after another
abbrev pub encodings : (ℕ → List ℕ) → List ℕ → List ℕ
encodings encoding cs = flat_map encoding cs

-- the one byte c
abbrev pub one_byte : ℕ → List ℕ
one_byte c = c ∷ []

-- each character with the offset at which its encoding begins; the first one's is `at`
abbrev pub places_from : (ℕ → List ℕ) → ℕ → List ℕ → List (ℕ × ℕ)
places_from encoding at [] = []
places_from encoding at (c ∷ cs) = (at, c) ∷ places_from encoding (at + length (encoding c)) cs

-- the bytes begin with the encoding of their first character, c, which has n bytes; these n bytes are valid, and so are
-- the others
pub record IsFirstChar (valid : List ℕ → Type 0) (chars : List ℕ → List ℕ) (encodes : ℕ → Type 0)
    (encoding : ℕ → List ℕ) (bytes : List ℕ) (c n : ℕ) : Type 0 where
  pub encoded : encodes c
  pub len : n ≡ length (encoding c)
  pub within : n ≤ length bytes
  pub front : take n bytes ≡ encoding c
  pub characters : chars bytes ≡ c ∷ chars (drop n bytes)
  pub front_valid : valid (take n bytes)
  pub rest_valid : valid (drop n bytes)

-- the texts of the characters cs and of the characters ds are valid, and have these characters
pub record AreTextsOf (valid : List ℕ → Type 0) (chars : List ℕ → List ℕ) (encoding : ℕ → List ℕ)
    (cs ds : List ℕ) : Type 0 where
  pub front_valid : valid (encodings encoding cs)
  pub rest_valid : valid (encodings encoding ds)
  pub front_chars : chars (encodings encoding cs) ≡ cs
  pub rest_chars : chars (encodings encoding ds) ≡ ds

-- four bytes of which the first `len` are used, and the others are zeros
pub record ArePadded (bytes : List ℕ) (len : ℕ) : Type 0 where
  pub short : len ≤ 4
  pub within : len ≤ length bytes
  pub zeros : drop len bytes ≡ replicate (4 - len) 0

-- the used bytes, filled up with zeros to four
abbrev pub padded : List ℕ → List ℕ
padded bytes = bytes ++ replicate (4 - length bytes) 0

-- the remainder of a text, from the offset `at` on, is UTF-8, and its offsets fit 64 bits
pub record IsAtUtf8 (at : ℕ) (rest : List ℕ) : Type 0 where
  pub utf8 : IsUtf8 rest
  pub fits : at + length rest < 2 ^ 64

-- the first n bytes of a text are the encodings of its first characters, cs, and the others are a text of its other
-- characters
pub record IsSplitAfter (valid : List ℕ → Type 0) (chars : List ℕ → List ℕ) (encoding : ℕ → List ℕ) (bytes cs : List ℕ)
    (n : ℕ) : Type 0 where
  pub within : n ≤ length bytes
  pub front : take n bytes ≡ encodings encoding cs
  pub characters : chars bytes ≡ cs ++ chars (drop n bytes)
  pub rest_valid : valid (drop n bytes)
