-- The words of lines: numbers, characters, bytes and units as digits.
use Rattle.std.specs.Prelude.{ℕ, ◌≡◌, ◌≢◌, ◌≤◌, ◌<◌, ◌/◌, ◌%◌, ◌==◌, ◌⊎◌, List, [], ◌∷◌, length, get_or, codes, Ok}
use Rattle.std.specs.Char.{IsScalar}
use Rattle.std.specs.Fmt.{decimal}
use Rattle.std.specs.List.{slice_split}
use Rattle.hex.specs.Hex.{decode_of, encode_lower}

-- the words of a line, split at each space: between two adjacent spaces is an empty word
abbrev pub words : List ℕ → List (List ℕ)
words line = slice_split (λ byte. byte == 32) line

-- a number up to a limit: its decimal digits, without leading zeros
abbrev pub IsNumberUpTo : ℕ → ℕ → List ℕ → Type 0
IsNumberUpTo limit n word = (n ≤ limit) × (word ≡ decimal n)

-- a number of 32 bits
abbrev pub IsNumber : ℕ → List ℕ → Type 0
IsNumber n word = IsNumberUpTo 4294967295 n word

-- a number of 64 bits
abbrev pub IsLongNumber : ℕ → List ℕ → Type 0
IsLongNumber n word = IsNumberUpTo 18446744073709551615 n word

-- a word that doesn't begin with a plus sign, and begins with a zero only if it is one byte
abbrev pub IsPlain : List ℕ → Type 0
IsPlain word = (get_or word 0 0 ≢ 43) × (get_or word 0 0 ≡ 48 → length word ≡ 1)

-- a character: the decimal digits of its scalar value
abbrev pub IsCharWord : ℕ → List ℕ → Type 0
IsCharWord c word = IsScalar c × (word ≡ decimal c)

-- bytes: two hexadecimal digits each, in either case, or a dash for none
unfoldable pub IsHex : List ℕ → List ℕ → Type 0
IsHex bytes word = ((word ≡ codes "-") × (bytes ≡ [])) ⊎ ((0 < length word) × (decode_of word ≡ Ok bytes))

-- one byte: two hexadecimal digits
unfoldable pub IsByteWord : ℕ → List ℕ → Type 0
IsByteWord b word = IsHex (b ∷ []) word

-- bytes as they are written: two hexadecimal digits each, in lower case, or a dash for none
abbrev pub hex_text : List ℕ → List ℕ
hex_text [] = codes "-"
hex_text (x ∷ xs) = encode_lower (x ∷ xs)

-- the two bytes of each 16-bit unit, the high one first
abbrev pub big_endian : List ℕ → List ℕ
big_endian [] = []
big_endian (u ∷ us) = u / 0x100 ∷ u % 0x100 ∷ big_endian us

-- units: four hexadecimal digits each, in either case, the high ones first, or a dash for none
unfoldable pub IsUnits : List ℕ → List ℕ → Type 0
IsUnits us word = IsHex (big_endian us) word
