-- The machine of an encoding that is chosen at run time: its states are those of several machines.
use Rattle.std.specs.Prelude.{ℕ, ◌≤◌, Bool, true, false, List}
use Rattle.tendril_lossy.specs.Lossy.{Told}
use Rattle.tendril_decode.specs.Machines.{Machine}
use Rattle.tendril_decode.specs.Big5.{big5_first, big5_pair}
use Rattle.tendril_decode.specs.EucJp.{euc_jp, jp_weight, jp_weight_few}
use Rattle.tendril_decode.specs.EucKr.{kr_first, kr_pair}
use Rattle.tendril_decode.specs.Gb18030.{gb18030, is_fit as is_fit_gb18030, weight as gb18030_weight}
use Rattle.tendril_decode.specs.Gb18030.{weight_few as gb18030_few}
use Rattle.tendril_decode.specs.Iso2022Jp.{iso_2022_jp, is_fit as is_fit_iso_2022_jp, weight as iso_2022_jp_weight}
use Rattle.tendril_decode.specs.Iso2022Jp.{weight_few as iso_2022_jp_few}
use Rattle.tendril_decode.specs.Replacement.{replacement}
use Rattle.tendril_decode.specs.ShiftJis.{sjis_first, sjis_pair}
use Rattle.tendril_decode.specs.Single.{none_few, single_byte}
use Rattle.tendril_decode.specs.TwoBytes.{two_bytes, is_fit as is_fit_two_bytes, weight as two_bytes_weight}
use Rattle.tendril_decode.specs.TwoBytes.{weight_few as two_bytes_few}
use Rattle.tendril_decode.specs.Utf16.{utf16, weight as utf16_weight, weight_few as utf16_few, is_fit as is_fit_utf16}
use Rattle.tendril_decode.specs.declared.any_decoder.AnyDecoder.{AnyDecoder}
use Rattle.tendril_decode.specs.declared.any_decoder.AnyDecoder.TheVariants.{Single, Big5, EucJp, EucKr, Gb18030}
use Rattle.tendril_decode.specs.declared.any_decoder.AnyDecoder.TheVariants.{Iso2022Jp, ShiftJis, Utf16Le}
use Rattle.tendril_decode.specs.declared.any_decoder.AnyDecoder.TheVariants.{Utf16Be, Replacement}

abbrev pub step : AnyDecoder → ℕ → AnyDecoder
step (Single s) b = Single ((single_byte s).step s b)
step (Big5 s) b = Big5 ((two_bytes big5_first big5_pair).step s b)
step (EucJp s) b = EucJp (euc_jp.step s b)
step (EucKr s) b = EucKr ((two_bytes kr_first kr_pair).step s b)
step (Gb18030 s) b = Gb18030 (gb18030.step s b)
step (Iso2022Jp s) b = Iso2022Jp (iso_2022_jp.step s b)
step (ShiftJis s) b = ShiftJis ((two_bytes sjis_first sjis_pair).step s b)
step (Utf16Le s) b = Utf16Le ((utf16 false).step s b)
step (Utf16Be s) b = Utf16Be ((utf16 true).step s b)
step (Replacement s) b = Replacement (replacement.step s b)

abbrev pub tells : AnyDecoder → ℕ → List Told
tells (Single s) b = (single_byte s).tells s b
tells (Big5 s) b = (two_bytes big5_first big5_pair).tells s b
tells (EucJp s) b = euc_jp.tells s b
tells (EucKr s) b = (two_bytes kr_first kr_pair).tells s b
tells (Gb18030 s) b = gb18030.tells s b
tells (Iso2022Jp s) b = iso_2022_jp.tells s b
tells (ShiftJis s) b = (two_bytes sjis_first sjis_pair).tells s b
tells (Utf16Le s) b = (utf16 false).tells s b
tells (Utf16Be s) b = (utf16 true).tells s b
tells (Replacement s) b = replacement.tells s b

abbrev pub ends : AnyDecoder → List Told
ends (Single s) = (single_byte s).ends s
ends (Big5 s) = (two_bytes big5_first big5_pair).ends s
ends (EucJp s) = euc_jp.ends s
ends (EucKr s) = (two_bytes kr_first kr_pair).ends s
ends (Gb18030 s) = gb18030.ends s
ends (Iso2022Jp s) = iso_2022_jp.ends s
ends (ShiftJis s) = (two_bytes sjis_first sjis_pair).ends s
ends (Utf16Le s) = (utf16 false).ends s
ends (Utf16Be s) = (utf16 true).ends s
ends (Replacement s) = replacement.ends s

-- the machine that starts in a state, which says what the encoding is
abbrev pub any_machine : AnyDecoder → Machine AnyDecoder
any_machine start = record { start = start; step = step; tells = tells; ends = ends }

abbrev pub is_fit : AnyDecoder → Bool
is_fit (Single s) = true
is_fit (Big5 s) = is_fit_two_bytes big5_first s
is_fit (EucJp s) = true
is_fit (EucKr s) = is_fit_two_bytes kr_first s
is_fit (Gb18030 s) = is_fit_gb18030 s
is_fit (Iso2022Jp s) = is_fit_iso_2022_jp s
is_fit (ShiftJis s) = is_fit_two_bytes sjis_first s
is_fit (Utf16Le s) = is_fit_utf16 s
is_fit (Utf16Be s) = is_fit_utf16 s
is_fit (Replacement s) = true

-- how many steps may be made in a state without reading a byte
abbrev pub weight_of : AnyDecoder → ℕ
weight_of (Single s) = 0
weight_of (Big5 s) = two_bytes_weight s
weight_of (EucJp s) = jp_weight s
weight_of (EucKr s) = two_bytes_weight s
weight_of (Gb18030 s) = gb18030_weight s
weight_of (Iso2022Jp s) = iso_2022_jp_weight s
weight_of (ShiftJis s) = two_bytes_weight s
weight_of (Utf16Le s) = utf16_weight s
weight_of (Utf16Be s) = utf16_weight s
weight_of (Replacement s) = 0

pub weight_few : (s : AnyDecoder) → weight_of s ≤ 4
weight_few (Single s) = none_few
weight_few (Big5 s) = two_bytes_few s
weight_few (EucJp s) = jp_weight_few s
weight_few (EucKr s) = two_bytes_few s
weight_few (Gb18030 s) = gb18030_few s
weight_few (Iso2022Jp s) = iso_2022_jp_few s
weight_few (ShiftJis s) = two_bytes_few s
weight_few (Utf16Le s) = utf16_few s
weight_few (Utf16Be s) = utf16_few s
weight_few (Replacement s) = none_few
