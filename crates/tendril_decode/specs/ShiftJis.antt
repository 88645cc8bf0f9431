-- Shift_JIS, by the standard's 'Shift_JIS decoder'.
use Rattle.std.specs.Prelude.{ℕ, ◌+◌, ◌-◌, ◌*◌, ◌==◌, ◌||◌, nat_lt, slice_index, if◌then◌else◌}
use Rattle.std.specs.Prelude.{Bool}
use Rattle.tendril_decode.specs.Machines.{Machine}
use Rattle.tendril_decode.specs.TwoBytes.{in_range, pair_of, two_bytes}
use Rattle.tendril_decode.specs.declared.tables.jis0208.TheConstants.{JIS0208}
use Rattle.tendril_decode.specs.declared.two_bytes.First.{First}
use Rattle.tendril_decode.specs.declared.two_bytes.First.TheVariants.{Character, Lead, Malformed}
use Rattle.tendril_decode.specs.declared.two_bytes.Pair.{Pair}
use Rattle.tendril_decode.specs.declared.two_bytes.Pair.TheVariants.{Absent}
use Rattle.tendril_decode.specs.declared.two_bytes.TwoBytes.{TwoBytes}

-- a byte from 0x80 on: 0x80 is itself, and 0xA1 to 0xDF are the halfwidth katakana
abbrev pub sjis_first : ℕ → First
sjis_first b =
    if in_range 0x81 0x9F b || in_range 0xE0 0xFC b then Lead
    else (if in_range 0xA1 0xDF b then Character (0xFF61 + (b - 0xA1))
    else (if b == 0x80 then Character 0x80 else Malformed))

-- the first pointer of a lead
abbrev pub sjis_row : ℕ → ℕ
sjis_row l = (if nat_lt l 0xA0 then l - 0x81 else l - 0xC1) * 188

-- the pointers of the private characters
abbrev pub is_private : ℕ → Bool
is_private p = in_range 8836 10715 p

-- the character of a pointer, or 0
unfoldable pub sjis_char : ℕ → ℕ
sjis_char p = if is_private p then 0xE000 + (p - 8836) else slice_index JIS0208 p

-- a trail is in one of two ranges, of 63 and of 125
abbrev pub is_sjis_trail : ℕ → Bool
is_sjis_trail b = in_range 0x40 0x7E b || in_range 0x80 0xFC b

-- the place of a trail in its row
abbrev pub sjis_cell : ℕ → ℕ
sjis_cell b = if nat_lt b 0x7F then b - 0x40 else b - 0x41

unfoldable pub sjis_pair : ℕ → ℕ → Pair
sjis_pair l b = if is_sjis_trail b then pair_of (sjis_char (sjis_row l + sjis_cell b)) else Absent

abbrev pub shift_jis : {E : Type 0} → Machine (TwoBytes E)
shift_jis = two_bytes sjis_first sjis_pair
