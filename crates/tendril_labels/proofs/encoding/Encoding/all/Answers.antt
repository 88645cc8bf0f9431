use Rattle.std.proofs.Common.{lit<, refl}
use Rattle.std.specs.List.{Contains}
use Rattle.tendril_labels.specs.declared.encoding.Encoding.{Encoding}
use Rattle.tendril_labels.specs.declared.encoding.Encoding.TheVariants.{
  Big5,
  EucJp,
  EucKr,
  Gb18030,
  Gbk,
  Ibm866,
  Iso2022Jp,
  Iso8859_10,
  Iso8859_13,
  Iso8859_14,
  Iso8859_15,
  Iso8859_16,
  Iso8859_2,
  Iso8859_3,
  Iso8859_4,
  Iso8859_5,
  Iso8859_6,
  Iso8859_7,
  Iso8859_8,
  Iso8859_8I,
  Koi8R,
  Koi8U,
  Macintosh,
  Replacement,
  ShiftJis,
  Utf16Be,
  Utf16Le,
  Utf8,
  Windows1250,
  Windows1251,
  Windows1252,
  Windows1253,
  Windows1254,
  Windows1255,
  Windows1256,
  Windows1257,
  Windows1258,
  Windows874,
  XMacCyrillic,
  XUserDefined,
}
use Rattle.tendril_labels.specs.declared.encoding.TheConstants.{ALL}
use Rattle.tendril_labels.proofs.encoding.Encoding.all.Goals as goal

every : (e : Encoding) → Contains ALL e
every Big5 = (0, lit< tt, refl)
every EucJp = (1, lit< tt, refl)
every EucKr = (2, lit< tt, refl)
every Gb18030 = (3, lit< tt, refl)
every Gbk = (4, lit< tt, refl)
every Ibm866 = (5, lit< tt, refl)
every Iso2022Jp = (6, lit< tt, refl)
every Iso8859_10 = (7, lit< tt, refl)
every Iso8859_13 = (8, lit< tt, refl)
every Iso8859_14 = (9, lit< tt, refl)
every Iso8859_15 = (10, lit< tt, refl)
every Iso8859_16 = (11, lit< tt, refl)
every Iso8859_2 = (12, lit< tt, refl)
every Iso8859_3 = (13, lit< tt, refl)
every Iso8859_4 = (14, lit< tt, refl)
every Iso8859_5 = (15, lit< tt, refl)
every Iso8859_6 = (16, lit< tt, refl)
every Iso8859_7 = (17, lit< tt, refl)
every Iso8859_8 = (18, lit< tt, refl)
every Iso8859_8I = (19, lit< tt, refl)
every Koi8R = (20, lit< tt, refl)
every Koi8U = (21, lit< tt, refl)
every Macintosh = (22, lit< tt, refl)
every Replacement = (23, lit< tt, refl)
every ShiftJis = (24, lit< tt, refl)
every Utf16Be = (25, lit< tt, refl)
every Utf16Le = (26, lit< tt, refl)
every Utf8 = (27, lit< tt, refl)
every Windows1250 = (28, lit< tt, refl)
every Windows1251 = (29, lit< tt, refl)
every Windows1252 = (30, lit< tt, refl)
every Windows1253 = (31, lit< tt, refl)
every Windows1254 = (32, lit< tt, refl)
every Windows1255 = (33, lit< tt, refl)
every Windows1256 = (34, lit< tt, refl)
every Windows1257 = (35, lit< tt, refl)
every Windows1258 = (36, lit< tt, refl)
every Windows874 = (37, lit< tt, refl)
every XMacCyrillic = (38, lit< tt, refl)
every XUserDefined = (39, lit< tt, refl)

pub returns-clause-every : goal.returns-clause-every
returns-clause-every c = every
