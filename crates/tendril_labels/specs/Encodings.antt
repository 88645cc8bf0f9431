-- What is known of each encoding by itself: its name, whether it keeps ASCII, and its byte order mark.
use Rattle.std.specs.Prelude.{
  ℕ,
  Bool,
  true,
  false,
  List,
  [],
  ◌∷◌,
  length,
  take,
  Option,
  Some,
  None,
  if◌then◌else◌,
  codes,
  bytes_eq,
}
use Rattle.tendril_labels.specs.declared.encoding.Encoding.{Encoding}
use Rattle.tendril_labels.specs.declared.encoding.Encoding.TheVariants.{
  Big5,
  EucJp,
  EucKr,
  Gb18030,
  Gbk,
  Ibm866,
  Iso2022Jp,
  Iso8859_10,
  Iso8859_13,
  Iso8859_14,
  Iso8859_15,
  Iso8859_16,
  Iso8859_2,
  Iso8859_3,
  Iso8859_4,
  Iso8859_5,
  Iso8859_6,
  Iso8859_7,
  Iso8859_8,
  Iso8859_8I,
  Koi8R,
  Koi8U,
  Macintosh,
  Replacement,
  ShiftJis,
  Utf16Be,
  Utf16Le,
  Utf8,
  Windows1250,
  Windows1251,
  Windows1252,
  Windows1253,
  Windows1254,
  Windows1255,
  Windows1256,
  Windows1257,
  Windows1258,
  Windows874,
  XMacCyrillic,
  XUserDefined,
}

-- the name that the standard gives the encoding
abbrev pub encoding_name : Encoding → List ℕ
encoding_name Big5 = codes "Big5"
encoding_name EucJp = codes "EUC-JP"
encoding_name EucKr = codes "EUC-KR"
encoding_name Gb18030 = codes "gb18030"
encoding_name Gbk = codes "GBK"
encoding_name Ibm866 = codes "IBM866"
encoding_name Iso2022Jp = codes "ISO-2022-JP"
encoding_name Iso8859_10 = codes "ISO-8859-10"
encoding_name Iso8859_13 = codes "ISO-8859-13"
encoding_name Iso8859_14 = codes "ISO-8859-14"
encoding_name Iso8859_15 = codes "ISO-8859-15"
encoding_name Iso8859_16 = codes "ISO-8859-16"
encoding_name Iso8859_2 = codes "ISO-8859-2"
encoding_name Iso8859_3 = codes "ISO-8859-3"
encoding_name Iso8859_4 = codes "ISO-8859-4"
encoding_name Iso8859_5 = codes "ISO-8859-5"
encoding_name Iso8859_6 = codes "ISO-8859-6"
encoding_name Iso8859_7 = codes "ISO-8859-7"
encoding_name Iso8859_8 = codes "ISO-8859-8"
encoding_name Iso8859_8I = codes "ISO-8859-8-I"
encoding_name Koi8R = codes "KOI8-R"
encoding_name Koi8U = codes "KOI8-U"
encoding_name Macintosh = codes "macintosh"
encoding_name Replacement = codes "replacement"
encoding_name ShiftJis = codes "Shift_JIS"
encoding_name Utf16Be = codes "UTF-16BE"
encoding_name Utf16Le = codes "UTF-16LE"
encoding_name Utf8 = codes "UTF-8"
encoding_name Windows1250 = codes "windows-1250"
encoding_name Windows1251 = codes "windows-1251"
encoding_name Windows1252 = codes "windows-1252"
encoding_name Windows1253 = codes "windows-1253"
encoding_name Windows1254 = codes "windows-1254"
encoding_name Windows1255 = codes "windows-1255"
encoding_name Windows1256 = codes "windows-1256"
encoding_name Windows1257 = codes "windows-1257"
encoding_name Windows1258 = codes "windows-1258"
encoding_name Windows874 = codes "windows-874"
encoding_name XMacCyrillic = codes "x-mac-cyrillic"
encoding_name XUserDefined = codes "x-user-defined"

-- a byte below 0x80 at the beginning of a character always is that ASCII character
abbrev pub is_compatible : Encoding → Bool
is_compatible Iso2022Jp = false
is_compatible Replacement = false
is_compatible Utf16Be = false
is_compatible Utf16Le = false
is_compatible _ = true

-- the bytes begin with the mark
abbrev begins : List ℕ → List ℕ → Bool
begins mark bytes = bytes_eq (take (length mark) bytes) mark

-- the encoding whose byte order mark the bytes begin with, and the mark's length
abbrev pub bom_of : List ℕ → Option (Encoding × ℕ)
bom_of bytes =
    if begins (0xEF ∷ 0xBB ∷ 0xBF ∷ []) bytes then Some (Utf8, 3)
    else if begins (0xFE ∷ 0xFF ∷ []) bytes then Some (Utf16Be, 2)
    else if begins (0xFF ∷ 0xFE ∷ []) bytes then Some (Utf16Le, 2)
    else None
