-- Laws of what streams in the encodings are decoded to.
use Rattle.std.specs.Int.{to_le_bytes, w16}
use Rattle.std.specs.Prelude.{◌≡◌, ◌≤◌, ◌*◌, ℕ, true, List, length, map, flat_map, chars, IsAscii, IsUtf8}
use Rattle.std.specs.Str.{all_scalars, encode_utf8_all}
use Rattle.tendril_decode.specs.declared.any_decoder.AnyDecoder.TheVariants.{Single}
use Rattle.tendril_decode.specs.declared.single_byte.SingleByte.{SingleByte}
use Rattle.tendril_encoding.specs.Choices.{start_for}
use Rattle.tendril_encoding.specs.First.{first_chosen}
use Rattle.tendril_encoding.specs.States.{decoding_from}
use Rattle.tendril_encoding.specs.declared.known.Chosen.TheVariants.{Slices}
use Rattle.tendril_encoding.specs.declared.mark.BomHandling.{BomHandling}
use Rattle.tendril_encoding.specs.declared.mark.BomHandling.TheVariants.{Keep}
use Rattle.tendril_fmt.specs.Bytes.{AreBytes}
use Rattle.tendril_fmt.specs.Wtf8.{units}
use Rattle.tendril_labels.specs.Encodings.{is_compatible}
use Rattle.tendril_labels.specs.declared.encoding.Encoding.{Encoding}
use Rattle.tendril_labels.specs.declared.encoding.Encoding.TheVariants.{Utf16Le}
use Rattle.tendril_lossy.specs.Lossy.{Told, Char, characters}

-- in an encoding that is compatible with ASCII, ASCII bytes are decoded to themselves
abbrev pub DecodesAsciiToItself : Type 0
DecodesAsciiToItself = (e : Encoding) (bom : BomHandling) (b : List ℕ) → is_compatible e ≡ true → IsAscii b
    → (decoding_from (start_for e bom)).decoded b ≡ map Char b

-- all characters of an output are scalar values
abbrev pub HasScalars : List Told → Type 0
HasScalars told = all_scalars (characters told) ≡ true

-- every stream of bytes is decoded to scalar values
abbrev pub DecodesToScalars : Type 0
DecodesToScalars = (e : Encoding) (bom : BomHandling) (b : List ℕ) → AreBytes b
    → HasScalars ((decoding_from (start_for e bom)).decoded b)

-- the bytes of 16-bit units, the low byte of each first
abbrev pub unit_bytes : List ℕ → List ℕ
unit_bytes us = flat_map (to_le_bytes w16) us

-- the units of a text, as UTF-16LE, are decoded to the text's characters, with no error
abbrev pub UnitsSpellText : Type 0
UnitsSpellText = (b : List ℕ) → IsUtf8 b
    → (decoding_from (start_for Utf16Le Keep)).decoded (unit_bytes (units b)) ≡ map Char (chars b)

-- the length of an output's text
abbrev pub told_len : List Told → ℕ
told_len told = length (encode_utf8_all (characters told))

-- in an encoding of one byte, the text has at most three bytes for each byte of the stream
abbrev pub IsThreefold : Type 0
IsThreefold = (e : Encoding) (one : SingleByte) (b : List ℕ) → first_chosen e ≡ Slices (Single one) → AreBytes b
    → told_len ((decoding_from (start_for e Keep)).decoded b) ≤ 3 * length b
