use Rattle.std.proofs.Common.{◌≡◌, Some, refl}
use Rattle.tendril_labels.specs.Encodings.{encoding_name}
use Rattle.tendril_labels.specs.Labels.{encoding_of}
use Rattle.tendril_labels.specs.Table.{labels}
use Rattle.tendril_labels.specs.declared.encoding.Encoding.{Encoding}
use Rattle.tendril_labels.specs.declared.encoding.Encoding.TheVariants.{
  Big5,
  EucJp,
  EucKr,
  Gb18030,
  Gbk,
  Ibm866,
  Iso2022Jp,
  Iso8859_10,
  Iso8859_13,
  Iso8859_14,
  Iso8859_15,
  Iso8859_16,
  Iso8859_2,
  Iso8859_3,
  Iso8859_4,
  Iso8859_5,
  Iso8859_6,
  Iso8859_7,
  Iso8859_8,
  Iso8859_8I,
  Koi8R,
  Koi8U,
  Macintosh,
  Replacement,
  ShiftJis,
  Utf16Be,
  Utf16Le,
  Utf8,
  Windows1250,
  Windows1251,
  Windows1252,
  Windows1253,
  Windows1254,
  Windows1255,
  Windows1256,
  Windows1257,
  Windows1258,
  Windows874,
  XMacCyrillic,
  XUserDefined,
}
use Rattle.tendril_labels.proofs.theorems.laws.Goals as goal

names : (e : Encoding) → encoding_of (encoding_name e) ≡ Some e
unfolding encoding_of labels
names Big5 = refl
names EucJp = refl
names EucKr = refl
names Gb18030 = refl
names Gbk = refl
names Ibm866 = refl
names Iso2022Jp = refl
names Iso8859_10 = refl
names Iso8859_13 = refl
names Iso8859_14 = refl
names Iso8859_15 = refl
names Iso8859_16 = refl
names Iso8859_2 = refl
names Iso8859_3 = refl
names Iso8859_4 = refl
names Iso8859_5 = refl
names Iso8859_6 = refl
names Iso8859_7 = refl
names Iso8859_8 = refl
names Iso8859_8I = refl
names Koi8R = refl
names Koi8U = refl
names Macintosh = refl
names Replacement = refl
names ShiftJis = refl
names Utf16Be = refl
names Utf16Le = refl
names Utf8 = refl
names Windows1250 = refl
names Windows1251 = refl
names Windows1252 = refl
names Windows1253 = refl
names Windows1254 = refl
names Windows1255 = refl
names Windows1256 = refl
names Windows1257 = refl
names Windows1258 = refl
names Windows874 = refl
names XMacCyrillic = refl
names XUserDefined = refl

pub returns-clause-names : goal.returns-clause-names
returns-clause-names c = names

pub returns-clause-rows : goal.returns-clause-rows
unfolding encoding_of labels
returns-clause-rows c = refl
