-- What is kept at the start of a stream, by its encoding or byte order mark.
use Rattle.std.specs.Prelude.{[], true, false}
use Rattle.tendril_decode.specs.Big5.{big5_first, big5_pair}
use Rattle.tendril_decode.specs.EucJp.{euc_jp}
use Rattle.tendril_decode.specs.EucKr.{kr_first, kr_pair}
use Rattle.tendril_decode.specs.Gb18030.{gb18030}
use Rattle.tendril_decode.specs.Iso2022Jp.{iso_2022_jp}
use Rattle.tendril_decode.specs.Replacement.{replacement}
use Rattle.tendril_decode.specs.ShiftJis.{sjis_first, sjis_pair}
use Rattle.tendril_decode.specs.TwoBytes.{two_bytes}
use Rattle.tendril_decode.specs.Utf16.{utf16}
use Rattle.tendril_decode.specs.declared.any_decoder.AnyDecoder.TheVariants.{Single, Utf16Le as any_utf16_le}
use Rattle.tendril_decode.specs.declared.any_decoder.AnyDecoder.TheVariants.{Utf16Be as any_utf16_be}
use Rattle.tendril_decode.specs.declared.any_decoder.AnyDecoder.TheVariants.{Replacement as any_replacement}
use Rattle.tendril_decode.specs.declared.any_decoder.AnyDecoder.TheVariants.{Big5 as any_big5, EucJp as any_euc_jp}
use Rattle.tendril_decode.specs.declared.any_decoder.AnyDecoder.TheVariants.{EucKr as any_euc_kr}
use Rattle.tendril_decode.specs.declared.any_decoder.AnyDecoder.TheVariants.{Gb18030 as any_gb18030}
use Rattle.tendril_decode.specs.declared.any_decoder.AnyDecoder.TheVariants.{Iso2022Jp as any_iso_2022_jp}
use Rattle.tendril_decode.specs.declared.any_decoder.AnyDecoder.TheVariants.{ShiftJis as any_shift_jis}
use Rattle.tendril_decode.specs.declared.single_byte.SingleByte.{SingleByte}
use Rattle.tendril_decode.specs.declared.single_byte.SingleByte.TheVariants.{Ibm866 as single_ibm866}
use Rattle.tendril_decode.specs.declared.single_byte.SingleByte.TheVariants.{Iso8859_2 as single_iso8859_2}
use Rattle.tendril_decode.specs.declared.single_byte.SingleByte.TheVariants.{Iso8859_3 as single_iso8859_3}
use Rattle.tendril_decode.specs.declared.single_byte.SingleByte.TheVariants.{Iso8859_4 as single_iso8859_4}
use Rattle.tendril_decode.specs.declared.single_byte.SingleByte.TheVariants.{Iso8859_5 as single_iso8859_5}
use Rattle.tendril_decode.specs.declared.single_byte.SingleByte.TheVariants.{Iso8859_6 as single_iso8859_6}
use Rattle.tendril_decode.specs.declared.single_byte.SingleByte.TheVariants.{Iso8859_7 as single_iso8859_7}
use Rattle.tendril_decode.specs.declared.single_byte.SingleByte.TheVariants.{Iso8859_8 as single_iso8859_8}
use Rattle.tendril_decode.specs.declared.single_byte.SingleByte.TheVariants.{Iso8859_8I as single_iso8859_8i}
use Rattle.tendril_decode.specs.declared.single_byte.SingleByte.TheVariants.{Iso8859_10 as single_iso8859_10}
use Rattle.tendril_decode.specs.declared.single_byte.SingleByte.TheVariants.{Iso8859_13 as single_iso8859_13}
use Rattle.tendril_decode.specs.declared.single_byte.SingleByte.TheVariants.{Iso8859_14 as single_iso8859_14}
use Rattle.tendril_decode.specs.declared.single_byte.SingleByte.TheVariants.{Iso8859_15 as single_iso8859_15}
use Rattle.tendril_decode.specs.declared.single_byte.SingleByte.TheVariants.{Iso8859_16 as single_iso8859_16}
use Rattle.tendril_decode.specs.declared.single_byte.SingleByte.TheVariants.{Koi8R as single_koi8r}
use Rattle.tendril_decode.specs.declared.single_byte.SingleByte.TheVariants.{Koi8U as single_koi8u}
use Rattle.tendril_decode.specs.declared.single_byte.SingleByte.TheVariants.{Macintosh as single_macintosh}
use Rattle.tendril_decode.specs.declared.single_byte.SingleByte.TheVariants.{Windows874 as single_windows874}
use Rattle.tendril_decode.specs.declared.single_byte.SingleByte.TheVariants.{Windows1250 as single_windows1250}
use Rattle.tendril_decode.specs.declared.single_byte.SingleByte.TheVariants.{Windows1251 as single_windows1251}
use Rattle.tendril_decode.specs.declared.single_byte.SingleByte.TheVariants.{Windows1252 as single_windows1252}
use Rattle.tendril_decode.specs.declared.single_byte.SingleByte.TheVariants.{Windows1253 as single_windows1253}
use Rattle.tendril_decode.specs.declared.single_byte.SingleByte.TheVariants.{Windows1254 as single_windows1254}
use Rattle.tendril_decode.specs.declared.single_byte.SingleByte.TheVariants.{Windows1255 as single_windows1255}
use Rattle.tendril_decode.specs.declared.single_byte.SingleByte.TheVariants.{Windows1256 as single_windows1256}
use Rattle.tendril_decode.specs.declared.single_byte.SingleByte.TheVariants.{Windows1257 as single_windows1257}
use Rattle.tendril_decode.specs.declared.single_byte.SingleByte.TheVariants.{Windows1258 as single_windows1258}
use Rattle.tendril_decode.specs.declared.single_byte.SingleByte.TheVariants.{XMacCyrillic as single_xmaccyrillic}
use Rattle.tendril_decode.specs.declared.single_byte.SingleByte.TheVariants.{XUserDefined as single_xuserdefined}
use Rattle.tendril_encoding.specs.declared.known.Chosen.{Chosen}
use Rattle.tendril_encoding.specs.declared.known.Chosen.TheVariants.{Pieces, Slices}
use Rattle.tendril_encoding.specs.declared.known.Known.{Known}
use Rattle.tendril_encoding.specs.declared.mark.Mark.{Mark}
use Rattle.tendril_encoding.specs.declared.mark.Mark.TheVariants.{OfUtf8, OfUtf16Le, OfUtf16Be}
use Rattle.tendril_labels.specs.declared.encoding.Encoding.{Encoding}
use Rattle.tendril_labels.specs.declared.encoding.Encoding.TheVariants.{Utf8, Utf16Le, Utf16Be, Replacement, Big5}
use Rattle.tendril_labels.specs.declared.encoding.Encoding.TheVariants.{EucJp, EucKr, Gb18030, Gbk, Iso2022Jp, ShiftJis}
use Rattle.tendril_labels.specs.declared.encoding.Encoding.TheVariants.{Ibm866, Iso8859_2, Iso8859_3, Iso8859_4}
use Rattle.tendril_labels.specs.declared.encoding.Encoding.TheVariants.{Iso8859_5, Iso8859_6, Iso8859_7, Iso8859_8}
use Rattle.tendril_labels.specs.declared.encoding.Encoding.TheVariants.{Iso8859_8I, Iso8859_10, Iso8859_13, Iso8859_14}
use Rattle.tendril_labels.specs.declared.encoding.Encoding.TheVariants.{Iso8859_15, Iso8859_16, Koi8R, Koi8U, Macintosh}
use Rattle.tendril_labels.specs.declared.encoding.Encoding.TheVariants.{Windows874, Windows1250, Windows1251}
use Rattle.tendril_labels.specs.declared.encoding.Encoding.TheVariants.{Windows1252, Windows1253, Windows1254}
use Rattle.tendril_labels.specs.declared.encoding.Encoding.TheVariants.{Windows1255, Windows1256, Windows1257}
use Rattle.tendril_labels.specs.declared.encoding.Encoding.TheVariants.{Windows1258, XMacCyrillic, XUserDefined}

abbrev pub first_utf8 : Chosen
first_utf8 = Pieces []

abbrev pub first_utf16_le : Chosen
first_utf16_le = Slices (any_utf16_le (utf16 false).start)

abbrev pub first_utf16_be : Chosen
first_utf16_be = Slices (any_utf16_be (utf16 true).start)

abbrev first_single : SingleByte → Chosen
first_single s = Slices (Single s)

abbrev first_gb18030 : Chosen
first_gb18030 = Slices (any_gb18030 gb18030.start)

-- GBK is decoded as gb18030
abbrev pub first_chosen : Encoding → Chosen
first_chosen Utf8 = first_utf8
first_chosen Utf16Le = first_utf16_le
first_chosen Utf16Be = first_utf16_be
first_chosen Replacement = Slices (any_replacement replacement.start)
first_chosen Big5 = Slices (any_big5 (two_bytes big5_first big5_pair).start)
first_chosen EucJp = Slices (any_euc_jp euc_jp.start)
first_chosen EucKr = Slices (any_euc_kr (two_bytes kr_first kr_pair).start)
first_chosen Gb18030 = first_gb18030
first_chosen Gbk = first_gb18030
first_chosen Iso2022Jp = Slices (any_iso_2022_jp iso_2022_jp.start)
first_chosen ShiftJis = Slices (any_shift_jis (two_bytes sjis_first sjis_pair).start)
first_chosen Ibm866 = first_single single_ibm866
first_chosen Iso8859_2 = first_single single_iso8859_2
first_chosen Iso8859_3 = first_single single_iso8859_3
first_chosen Iso8859_4 = first_single single_iso8859_4
first_chosen Iso8859_5 = first_single single_iso8859_5
first_chosen Iso8859_6 = first_single single_iso8859_6
first_chosen Iso8859_7 = first_single single_iso8859_7
first_chosen Iso8859_8 = first_single single_iso8859_8
first_chosen Iso8859_8I = first_single single_iso8859_8i
first_chosen Iso8859_10 = first_single single_iso8859_10
first_chosen Iso8859_13 = first_single single_iso8859_13
first_chosen Iso8859_14 = first_single single_iso8859_14
first_chosen Iso8859_15 = first_single single_iso8859_15
first_chosen Iso8859_16 = first_single single_iso8859_16
first_chosen Koi8R = first_single single_koi8r
first_chosen Koi8U = first_single single_koi8u
first_chosen Macintosh = first_single single_macintosh
first_chosen Windows874 = first_single single_windows874
first_chosen Windows1250 = first_single single_windows1250
first_chosen Windows1251 = first_single single_windows1251
first_chosen Windows1252 = first_single single_windows1252
first_chosen Windows1253 = first_single single_windows1253
first_chosen Windows1254 = first_single single_windows1254
first_chosen Windows1255 = first_single single_windows1255
first_chosen Windows1256 = first_single single_windows1256
first_chosen Windows1257 = first_single single_windows1257
first_chosen Windows1258 = first_single single_windows1258
first_chosen XMacCyrillic = first_single single_xmaccyrillic
first_chosen XUserDefined = first_single single_xuserdefined

-- what is kept after a byte order mark
abbrev pub after_mark : Mark → Known
after_mark OfUtf8 = record { encoding = Utf8; chosen = first_utf8 }
after_mark OfUtf16Le = record { encoding = Utf16Le; chosen = first_utf16_le }
after_mark OfUtf16Be = record { encoding = Utf16Be; chosen = first_utf16_be }
