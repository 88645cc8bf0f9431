-- Encodings of one byte a character.
use Rattle.std.specs.Prelude.{ℕ, ◌-◌, ◌≤◌, nat_lt, List, [], ◌∷◌, slice_index, if◌then◌else◌, ◌==◌}
use Rattle.std.proofs.Common.{lit≤}
use Rattle.tendril_lossy.specs.Lossy.{Told, Char}
use Rattle.tendril_decode.specs.Machines.{Machine, DecodesTo, invalid}
use Rattle.tendril_decode.specs.declared.single_byte.SingleByte.{SingleByte}
use Rattle.tendril_decode.specs.declared.single_byte.SingleByte.TheVariants.{Ibm866, Iso8859_2, Iso8859_3, Iso8859_4}
use Rattle.tendril_decode.specs.declared.single_byte.SingleByte.TheVariants.{Iso8859_5, Iso8859_6, Iso8859_7, Iso8859_8}
use Rattle.tendril_decode.specs.declared.single_byte.SingleByte.TheVariants.{Iso8859_8I, Iso8859_10, Iso8859_13}
use Rattle.tendril_decode.specs.declared.single_byte.SingleByte.TheVariants.{Iso8859_14, Iso8859_15, Iso8859_16, Koi8R}
use Rattle.tendril_decode.specs.declared.single_byte.SingleByte.TheVariants.{Koi8U, Macintosh, Windows874, Windows1250}
use Rattle.tendril_decode.specs.declared.single_byte.SingleByte.TheVariants.{Windows1251, Windows1252, Windows1253}
use Rattle.tendril_decode.specs.declared.single_byte.SingleByte.TheVariants.{Windows1254, Windows1255, Windows1256}
use Rattle.tendril_decode.specs.declared.single_byte.SingleByte.TheVariants.{Windows1257, Windows1258, XMacCyrillic}
use Rattle.tendril_decode.specs.declared.single_byte.SingleByte.TheVariants.{XUserDefined}
use Rattle.tendril_decode.specs.declared.tables.ibm866.TheConstants.{IBM866}
use Rattle.tendril_decode.specs.declared.tables.iso_8859_10.TheConstants.{ISO_8859_10}
use Rattle.tendril_decode.specs.declared.tables.iso_8859_13.TheConstants.{ISO_8859_13}
use Rattle.tendril_decode.specs.declared.tables.iso_8859_14.TheConstants.{ISO_8859_14}
use Rattle.tendril_decode.specs.declared.tables.iso_8859_15.TheConstants.{ISO_8859_15}
use Rattle.tendril_decode.specs.declared.tables.iso_8859_16.TheConstants.{ISO_8859_16}
use Rattle.tendril_decode.specs.declared.tables.iso_8859_2.TheConstants.{ISO_8859_2}
use Rattle.tendril_decode.specs.declared.tables.iso_8859_3.TheConstants.{ISO_8859_3}
use Rattle.tendril_decode.specs.declared.tables.iso_8859_4.TheConstants.{ISO_8859_4}
use Rattle.tendril_decode.specs.declared.tables.iso_8859_5.TheConstants.{ISO_8859_5}
use Rattle.tendril_decode.specs.declared.tables.iso_8859_6.TheConstants.{ISO_8859_6}
use Rattle.tendril_decode.specs.declared.tables.iso_8859_7.TheConstants.{ISO_8859_7}
use Rattle.tendril_decode.specs.declared.tables.iso_8859_8.TheConstants.{ISO_8859_8}
use Rattle.tendril_decode.specs.declared.tables.koi8_r.TheConstants.{KOI8_R}
use Rattle.tendril_decode.specs.declared.tables.koi8_u.TheConstants.{KOI8_U}
use Rattle.tendril_decode.specs.declared.tables.macintosh.TheConstants.{MACINTOSH}
use Rattle.tendril_decode.specs.declared.tables.windows_1250.TheConstants.{WINDOWS_1250}
use Rattle.tendril_decode.specs.declared.tables.windows_1251.TheConstants.{WINDOWS_1251}
use Rattle.tendril_decode.specs.declared.tables.windows_1252.TheConstants.{WINDOWS_1252}
use Rattle.tendril_decode.specs.declared.tables.windows_1253.TheConstants.{WINDOWS_1253}
use Rattle.tendril_decode.specs.declared.tables.windows_1254.TheConstants.{WINDOWS_1254}
use Rattle.tendril_decode.specs.declared.tables.windows_1255.TheConstants.{WINDOWS_1255}
use Rattle.tendril_decode.specs.declared.tables.windows_1256.TheConstants.{WINDOWS_1256}
use Rattle.tendril_decode.specs.declared.tables.windows_1257.TheConstants.{WINDOWS_1257}
use Rattle.tendril_decode.specs.declared.tables.windows_1258.TheConstants.{WINDOWS_1258}
use Rattle.tendril_decode.specs.declared.tables.windows_874.TheConstants.{WINDOWS_874}
use Rattle.tendril_decode.specs.declared.tables.x_mac_cyrillic.TheConstants.{X_MAC_CYRILLIC}
use Rattle.tendril_decode.specs.declared.tables.x_user_defined.TheConstants.{X_USER_DEFINED}

-- the characters of the bytes from 0x80 on, 0 where a byte has none
abbrev pub table_of : SingleByte → List ℕ
table_of Ibm866 = IBM866
table_of Iso8859_2 = ISO_8859_2
table_of Iso8859_3 = ISO_8859_3
table_of Iso8859_4 = ISO_8859_4
table_of Iso8859_5 = ISO_8859_5
table_of Iso8859_6 = ISO_8859_6
table_of Iso8859_7 = ISO_8859_7
table_of Iso8859_8 = ISO_8859_8
table_of Iso8859_8I = ISO_8859_8
table_of Iso8859_10 = ISO_8859_10
table_of Iso8859_13 = ISO_8859_13
table_of Iso8859_14 = ISO_8859_14
table_of Iso8859_15 = ISO_8859_15
table_of Iso8859_16 = ISO_8859_16
table_of Koi8R = KOI8_R
table_of Koi8U = KOI8_U
table_of Macintosh = MACINTOSH
table_of Windows874 = WINDOWS_874
table_of Windows1250 = WINDOWS_1250
table_of Windows1251 = WINDOWS_1251
table_of Windows1252 = WINDOWS_1252
table_of Windows1253 = WINDOWS_1253
table_of Windows1254 = WINDOWS_1254
table_of Windows1255 = WINDOWS_1255
table_of Windows1256 = WINDOWS_1256
table_of Windows1257 = WINDOWS_1257
table_of Windows1258 = WINDOWS_1258
table_of XMacCyrillic = X_MAC_CYRILLIC
table_of XUserDefined = X_USER_DEFINED

-- what an entry tells
abbrev pub tells_entry : ℕ → List Told
tells_entry c = if c == 0 then invalid else Char c ∷ []

-- what a byte tells: ASCII is itself, and the table has the others
abbrev pub tells_byte : List ℕ → ℕ → List Told
tells_byte table b = if nat_lt b 0x80 then Char b ∷ [] else tells_entry (slice_index table (b - 0x80))

-- the encoding is the state, and stays; each byte is a character, or malformed
abbrev pub single_byte : SingleByte → Machine SingleByte
single_byte encoding =
    record { start = encoding; step = λ s b. s; tells = λ s b. tells_byte (table_of s) b; ends = λ s. [] }

-- in the encoding s, the input tells the characters of the text, then the marks, then what `rest` tells
abbrev pub DecodesIn : SingleByte → List ℕ → List ℕ → List Told → List ℕ → Type 0
DecodesIn s input text marks rest = DecodesTo (single_byte s) s input text marks s rest

-- no step is made without reading a byte
pub none_few : 0 ≤ 4
none_few = lit≤ tt
