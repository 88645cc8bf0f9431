-- The labels of the Encoding Standard, by the names of their encodings. Written by `make_labels.py`.
use Rattle.std.specs.Prelude.{ℕ, List, [], ◌∷◌, codes}
use Rattle.tendril_labels.specs.declared.encoding.Encoding.{Encoding}
use Rattle.tendril_labels.specs.declared.encoding.Encoding.TheVariants.{
  Big5,
  EucJp,
  EucKr,
  Gb18030,
  Gbk,
  Ibm866,
  Iso2022Jp,
  Iso8859_10,
  Iso8859_13,
  Iso8859_14,
  Iso8859_15,
  Iso8859_16,
  Iso8859_2,
  Iso8859_3,
  Iso8859_4,
  Iso8859_5,
  Iso8859_6,
  Iso8859_7,
  Iso8859_8,
  Iso8859_8I,
  Koi8R,
  Koi8U,
  Macintosh,
  Replacement,
  ShiftJis,
  Utf16Be,
  Utf16Le,
  Utf8,
  Windows1250,
  Windows1251,
  Windows1252,
  Windows1253,
  Windows1254,
  Windows1255,
  Windows1256,
  Windows1257,
  Windows1258,
  Windows874,
  XMacCyrillic,
  XUserDefined,
}

unfoldable pub labels : List (List ℕ × Encoding)
labels =
    (codes "big5", Big5) ∷
    (codes "big5-hkscs", Big5) ∷
    (codes "cn-big5", Big5) ∷
    (codes "csbig5", Big5) ∷
    (codes "x-x-big5", Big5) ∷
    (codes "cseucpkdfmtjapanese", EucJp) ∷
    (codes "euc-jp", EucJp) ∷
    (codes "x-euc-jp", EucJp) ∷
    (codes "cseuckr", EucKr) ∷
    (codes "csksc56011987", EucKr) ∷
    (codes "euc-kr", EucKr) ∷
    (codes "iso-ir-149", EucKr) ∷
    (codes "korean", EucKr) ∷
    (codes "ks_c_5601-1987", EucKr) ∷
    (codes "ks_c_5601-1989", EucKr) ∷
    (codes "ksc5601", EucKr) ∷
    (codes "ksc_5601", EucKr) ∷
    (codes "windows-949", EucKr) ∷
    (codes "gb18030", Gb18030) ∷
    (codes "chinese", Gbk) ∷
    (codes "csgb2312", Gbk) ∷
    (codes "csiso58gb231280", Gbk) ∷
    (codes "gb2312", Gbk) ∷
    (codes "gb_2312", Gbk) ∷
    (codes "gb_2312-80", Gbk) ∷
    (codes "gbk", Gbk) ∷
    (codes "iso-ir-58", Gbk) ∷
    (codes "x-gbk", Gbk) ∷
    (codes "866", Ibm866) ∷
    (codes "cp866", Ibm866) ∷
    (codes "csibm866", Ibm866) ∷
    (codes "ibm866", Ibm866) ∷
    (codes "csiso2022jp", Iso2022Jp) ∷
    (codes "iso-2022-jp", Iso2022Jp) ∷
    (codes "csisolatin6", Iso8859_10) ∷
    (codes "iso-8859-10", Iso8859_10) ∷
    (codes "iso-ir-157", Iso8859_10) ∷
    (codes "iso8859-10", Iso8859_10) ∷
    (codes "iso885910", Iso8859_10) ∷
    (codes "l6", Iso8859_10) ∷
    (codes "latin6", Iso8859_10) ∷
    (codes "iso-8859-13", Iso8859_13) ∷
    (codes "iso8859-13", Iso8859_13) ∷
    (codes "iso885913", Iso8859_13) ∷
    (codes "iso-8859-14", Iso8859_14) ∷
    (codes "iso8859-14", Iso8859_14) ∷
    (codes "iso885914", Iso8859_14) ∷
    (codes "csisolatin9", Iso8859_15) ∷
    (codes "iso-8859-15", Iso8859_15) ∷
    (codes "iso8859-15", Iso8859_15) ∷
    (codes "iso885915", Iso8859_15) ∷
    (codes "iso_8859-15", Iso8859_15) ∷
    (codes "l9", Iso8859_15) ∷
    (codes "iso-8859-16", Iso8859_16) ∷
    (codes "csisolatin2", Iso8859_2) ∷
    (codes "iso-8859-2", Iso8859_2) ∷
    (codes "iso-ir-101", Iso8859_2) ∷
    (codes "iso8859-2", Iso8859_2) ∷
    (codes "iso88592", Iso8859_2) ∷
    (codes "iso_8859-2", Iso8859_2) ∷
    (codes "iso_8859-2:1987", Iso8859_2) ∷
    (codes "l2", Iso8859_2) ∷
    (codes "latin2", Iso8859_2) ∷
    (codes "csisolatin3", Iso8859_3) ∷
    (codes "iso-8859-3", Iso8859_3) ∷
    (codes "iso-ir-109", Iso8859_3) ∷
    (codes "iso8859-3", Iso8859_3) ∷
    (codes "iso88593", Iso8859_3) ∷
    (codes "iso_8859-3", Iso8859_3) ∷
    (codes "iso_8859-3:1988", Iso8859_3) ∷
    (codes "l3", Iso8859_3) ∷
    (codes "latin3", Iso8859_3) ∷
    (codes "csisolatin4", Iso8859_4) ∷
    (codes "iso-8859-4", Iso8859_4) ∷
    (codes "iso-ir-110", Iso8859_4) ∷
    (codes "iso8859-4", Iso8859_4) ∷
    (codes "iso88594", Iso8859_4) ∷
    (codes "iso_8859-4", Iso8859_4) ∷
    (codes "iso_8859-4:1988", Iso8859_4) ∷
    (codes "l4", Iso8859_4) ∷
    (codes "latin4", Iso8859_4) ∷
    (codes "csisolatincyrillic", Iso8859_5) ∷
    (codes "cyrillic", Iso8859_5) ∷
    (codes "iso-8859-5", Iso8859_5) ∷
    (codes "iso-ir-144", Iso8859_5) ∷
    (codes "iso8859-5", Iso8859_5) ∷
    (codes "iso88595", Iso8859_5) ∷
    (codes "iso_8859-5", Iso8859_5) ∷
    (codes "iso_8859-5:1988", Iso8859_5) ∷
    (codes "arabic", Iso8859_6) ∷
    (codes "asmo-708", Iso8859_6) ∷
    (codes "csiso88596e", Iso8859_6) ∷
    (codes "csiso88596i", Iso8859_6) ∷
    (codes "csisolatinarabic", Iso8859_6) ∷
    (codes "ecma-114", Iso8859_6) ∷
    (codes "iso-8859-6", Iso8859_6) ∷
    (codes "iso-8859-6-e", Iso8859_6) ∷
    (codes "iso-8859-6-i", Iso8859_6) ∷
    (codes "iso-ir-127", Iso8859_6) ∷
    (codes "iso8859-6", Iso8859_6) ∷
    (codes "iso88596", Iso8859_6) ∷
    (codes "iso_8859-6", Iso8859_6) ∷
    (codes "iso_8859-6:1987", Iso8859_6) ∷
    (codes "csisolatingreek", Iso8859_7) ∷
    (codes "ecma-118", Iso8859_7) ∷
    (codes "elot_928", Iso8859_7) ∷
    (codes "greek", Iso8859_7) ∷
    (codes "greek8", Iso8859_7) ∷
    (codes "iso-8859-7", Iso8859_7) ∷
    (codes "iso-ir-126", Iso8859_7) ∷
    (codes "iso8859-7", Iso8859_7) ∷
    (codes "iso88597", Iso8859_7) ∷
    (codes "iso_8859-7", Iso8859_7) ∷
    (codes "iso_8859-7:1987", Iso8859_7) ∷
    (codes "sun_eu_greek", Iso8859_7) ∷
    (codes "csiso88598e", Iso8859_8) ∷
    (codes "csisolatinhebrew", Iso8859_8) ∷
    (codes "hebrew", Iso8859_8) ∷
    (codes "iso-8859-8", Iso8859_8) ∷
    (codes "iso-8859-8-e", Iso8859_8) ∷
    (codes "iso-ir-138", Iso8859_8) ∷
    (codes "iso8859-8", Iso8859_8) ∷
    (codes "iso88598", Iso8859_8) ∷
    (codes "iso_8859-8", Iso8859_8) ∷
    (codes "iso_8859-8:1988", Iso8859_8) ∷
    (codes "visual", Iso8859_8) ∷
    (codes "csiso88598i", Iso8859_8I) ∷
    (codes "iso-8859-8-i", Iso8859_8I) ∷
    (codes "logical", Iso8859_8I) ∷
    (codes "cskoi8r", Koi8R) ∷
    (codes "koi", Koi8R) ∷
    (codes "koi8", Koi8R) ∷
    (codes "koi8-r", Koi8R) ∷
    (codes "koi8_r", Koi8R) ∷
    (codes "koi8-ru", Koi8U) ∷
    (codes "koi8-u", Koi8U) ∷
    (codes "csmacintosh", Macintosh) ∷
    (codes "mac", Macintosh) ∷
    (codes "macintosh", Macintosh) ∷
    (codes "x-mac-roman", Macintosh) ∷
    (codes "csiso2022kr", Replacement) ∷
    (codes "hz-gb-2312", Replacement) ∷
    (codes "iso-2022-cn", Replacement) ∷
    (codes "iso-2022-cn-ext", Replacement) ∷
    (codes "iso-2022-kr", Replacement) ∷
    (codes "replacement", Replacement) ∷
    (codes "csshiftjis", ShiftJis) ∷
    (codes "ms932", ShiftJis) ∷
    (codes "ms_kanji", ShiftJis) ∷
    (codes "shift-jis", ShiftJis) ∷
    (codes "shift_jis", ShiftJis) ∷
    (codes "sjis", ShiftJis) ∷
    (codes "windows-31j", ShiftJis) ∷
    (codes "x-sjis", ShiftJis) ∷
    (codes "unicodefffe", Utf16Be) ∷
    (codes "utf-16be", Utf16Be) ∷
    (codes "csunicode", Utf16Le) ∷
    (codes "iso-10646-ucs-2", Utf16Le) ∷
    (codes "ucs-2", Utf16Le) ∷
    (codes "unicode", Utf16Le) ∷
    (codes "unicodefeff", Utf16Le) ∷
    (codes "utf-16", Utf16Le) ∷
    (codes "utf-16le", Utf16Le) ∷
    (codes "unicode-1-1-utf-8", Utf8) ∷
    (codes "unicode11utf8", Utf8) ∷
    (codes "unicode20utf8", Utf8) ∷
    (codes "utf-8", Utf8) ∷
    (codes "utf8", Utf8) ∷
    (codes "x-unicode20utf8", Utf8) ∷
    (codes "cp1250", Windows1250) ∷
    (codes "windows-1250", Windows1250) ∷
    (codes "x-cp1250", Windows1250) ∷
    (codes "cp1251", Windows1251) ∷
    (codes "windows-1251", Windows1251) ∷
    (codes "x-cp1251", Windows1251) ∷
    (codes "ansi_x3.4-1968", Windows1252) ∷
    (codes "ascii", Windows1252) ∷
    (codes "cp1252", Windows1252) ∷
    (codes "cp819", Windows1252) ∷
    (codes "csisolatin1", Windows1252) ∷
    (codes "ibm819", Windows1252) ∷
    (codes "iso-8859-1", Windows1252) ∷
    (codes "iso-ir-100", Windows1252) ∷
    (codes "iso8859-1", Windows1252) ∷
    (codes "iso88591", Windows1252) ∷
    (codes "iso_8859-1", Windows1252) ∷
    (codes "iso_8859-1:1987", Windows1252) ∷
    (codes "l1", Windows1252) ∷
    (codes "latin1", Windows1252) ∷
    (codes "us-ascii", Windows1252) ∷
    (codes "windows-1252", Windows1252) ∷
    (codes "x-cp1252", Windows1252) ∷
    (codes "cp1253", Windows1253) ∷
    (codes "windows-1253", Windows1253) ∷
    (codes "x-cp1253", Windows1253) ∷
    (codes "cp1254", Windows1254) ∷
    (codes "csisolatin5", Windows1254) ∷
    (codes "iso-8859-9", Windows1254) ∷
    (codes "iso-ir-148", Windows1254) ∷
    (codes "iso8859-9", Windows1254) ∷
    (codes "iso88599", Windows1254) ∷
    (codes "iso_8859-9", Windows1254) ∷
    (codes "iso_8859-9:1989", Windows1254) ∷
    (codes "l5", Windows1254) ∷
    (codes "latin5", Windows1254) ∷
    (codes "windows-1254", Windows1254) ∷
    (codes "x-cp1254", Windows1254) ∷
    (codes "cp1255", Windows1255) ∷
    (codes "windows-1255", Windows1255) ∷
    (codes "x-cp1255", Windows1255) ∷
    (codes "cp1256", Windows1256) ∷
    (codes "windows-1256", Windows1256) ∷
    (codes "x-cp1256", Windows1256) ∷
    (codes "cp1257", Windows1257) ∷
    (codes "windows-1257", Windows1257) ∷
    (codes "x-cp1257", Windows1257) ∷
    (codes "cp1258", Windows1258) ∷
    (codes "windows-1258", Windows1258) ∷
    (codes "x-cp1258", Windows1258) ∷
    (codes "dos-874", Windows874) ∷
    (codes "iso-8859-11", Windows874) ∷
    (codes "iso8859-11", Windows874) ∷
    (codes "iso885911", Windows874) ∷
    (codes "tis-620", Windows874) ∷
    (codes "windows-874", Windows874) ∷
    (codes "x-mac-cyrillic", XMacCyrillic) ∷
    (codes "x-mac-ukrainian", XMacCyrillic) ∷
    (codes "x-user-defined", XUserDefined) ∷
    []
