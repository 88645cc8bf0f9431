-- EUC-KR, by the standard's 'EUC-KR decoder'.
use Rattle.std.specs.Prelude.{ℕ, ◌+◌, ◌-◌, ◌*◌, slice_index, if◌then◌else◌}
use Rattle.tendril_decode.specs.Machines.{Machine}
use Rattle.tendril_decode.specs.TwoBytes.{in_range, pair_of, two_bytes}
use Rattle.tendril_decode.specs.declared.tables.euc_kr.TheConstants.{EUC_KR}
use Rattle.tendril_decode.specs.declared.two_bytes.First.{First}
use Rattle.tendril_decode.specs.declared.two_bytes.First.TheVariants.{Lead, Malformed}
use Rattle.tendril_decode.specs.declared.two_bytes.Pair.{Pair}
use Rattle.tendril_decode.specs.declared.two_bytes.Pair.TheVariants.{Absent}
use Rattle.tendril_decode.specs.declared.two_bytes.TwoBytes.{TwoBytes}

abbrev pub kr_first : ℕ → First
kr_first b = if in_range 0x81 0xFE b then Lead else Malformed

-- the pointer of a lead and a trail
abbrev pub kr_pointer : ℕ → ℕ → ℕ
kr_pointer l b = (l - 0x81) * 190 + (b - 0x41)

unfoldable pub kr_pair : ℕ → ℕ → Pair
kr_pair l b = if in_range 0x41 0xFE b then pair_of (slice_index EUC_KR (kr_pointer l b)) else Absent

abbrev pub euc_kr : {E : Type 0} → Machine (TwoBytes E)
euc_kr = two_bytes kr_first kr_pair
