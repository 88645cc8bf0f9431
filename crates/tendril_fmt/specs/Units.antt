-- Code points split off WTF-8 and off units.
use Rattle.std.specs.Prelude.{◌≡◌, ℕ, ◌+◌, ◌-◌, ◌*◌, ◌/◌, ◌%◌, ◌<◌, ◌≤◌, ◌==◌, Bool, List, [], ◌∷◌, ◌++◌, length}
use Rattle.std.specs.Prelude.{if◌then◌else◌, nat_lt, slice_index, Option, Some, None, encode_utf8}
use Rattle.std.specs.Char.Escape.{encode_utf16}
use Rattle.std.specs.List.{AllByRecursion}
use Rattle.tendril_fmt.specs.CodePoints.{IsCodePoint}
use Rattle.tendril_fmt.specs.Wtf8.{IsWtf8, wtf8, units}

-- the remaining units of an iterator: the trail of a pair, if its lead was returned last, then the units of the bytes
abbrev pub units_left : Option ℕ → List ℕ → List ℕ
units_left None bytes = units bytes
units_left (Some trail) bytes = trail ∷ units bytes

-- a text is the bytes of the code point c, then the text `rest`; its units are those of c, then those of `rest`
pub record SplitsText (bytes : List ℕ) (c : ℕ) (rest : List ℕ) : Type 0 where
  pub point : IsCodePoint c
  pub split : bytes ≡ encode_utf8 c ++ rest
  pub spelt : units bytes ≡ encode_utf16 c ++ units rest
  pub rest_valid : IsWtf8 rest

-- units begin with those of the code point c: their WTF-8 is the bytes of c, then the WTF-8 of `rest`
pub record SplitsUnits (us : List ℕ) (c : ℕ) (rest : List ℕ) : Type 0 where
  pub point : IsCodePoint c
  pub spelt : wtf8 us ≡ encode_utf8 c ++ wtf8 rest
  pub shorter : length rest < length us

-- a byte of valid WTF-8 that is the first of a sequence of two bytes, of three, or of four
abbrev pub LeadsTwo : ℕ → Type 0
LeadsTwo b = (0xC0 ≤ b) × (b < 0xE0)

abbrev pub LeadsThree : ℕ → Type 0
LeadsThree b = (0xE0 ≤ b) × (b < 0xF0)

abbrev pub LeadsFour : ℕ → Type 0
LeadsFour b = 0xF0 ≤ b

-- the code point that a sequence of two bytes encodes, of three, or of four
abbrev pub code_of_two : ℕ → ℕ → ℕ
code_of_two a b = a % 0x20 * 0x40 + b % 0x40

abbrev pub code_of_three : ℕ → ℕ → ℕ → ℕ
code_of_three a b c = a % 0x10 * 0x1000 + b % 0x40 * 0x40 + c % 0x40

abbrev pub code_of_four : ℕ → ℕ → ℕ → ℕ → ℕ
code_of_four a b c d = a % 0x08 * 0x4_0000 + b % 0x40 * 0x1000 + c % 0x40 * 0x40 + d % 0x40

-- a byte that continues a sequence: its first two bits are 10
abbrev pub continues : ℕ → Bool
continues b = b / 0x40 == 2

-- the places of the bytes that begin a sequence; the first byte is at this place
abbrev pub starts : ℕ → List ℕ → List ℕ
starts at [] = []
starts at (b ∷ bytes) = if continues b then starts (at + 1) bytes else at ∷ starts (at + 1) bytes

-- the code point of a sequence of one, two or three bytes; other bytes may follow it
abbrev pub unit_of_bytes : ℕ → ℕ → ℕ → ℕ
unit_of_bytes a b c = if nat_lt a 0x80 then a else if nat_lt a 0xE0 then code_of_two a b else code_of_three a b c

-- the code point of such a sequence at a place
abbrev pub unit_of_bytes_at : List ℕ → ℕ → ℕ
unit_of_bytes_at bytes at =
    unit_of_bytes (slice_index bytes at) (slice_index bytes (at + 1)) (slice_index bytes (at + 2))

-- a text of at least 16 bytes, and a vector with spare capacity for one unit per byte
pub record CanPushFront (len capacity : ℕ) (bytes : List ℕ) : Type 0 where
  pub valid : IsWtf8 bytes
  pub block : 16 ≤ length bytes
  pub room : len + length bytes ≤ capacity

-- `new` is `old` and then the units of the first bytes of a text, of which there are some; the text `rest` follows them
pub record PushesFront (old new bytes rest : List ℕ) : Type 0 where
  pub shorter : length rest < length bytes
  pub rest_valid : IsWtf8 rest
  pub items : new ++ units rest ≡ old ++ units bytes

-- units begin with the block `front` of ASCII, and `rest` follows
pub record StartsWithAscii (all front rest : List ℕ) : Type 0 where
  pub ascii : AllByRecursion (λ u. u < 0x80) front
  pub block : length front ≡ 16
  pub split : all ≡ front ++ rest

-- how many bytes units add to the WTF-8 of the unit `last`, if they follow it
abbrev pub bytes_behind : ℕ → List ℕ → ℕ
bytes_behind last us = length (wtf8 (last ∷ us)) - length (wtf8 (last ∷ []))
