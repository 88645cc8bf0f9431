-- Big5, by the standard's 'Big5 decoder'.
use Rattle.std.specs.Prelude.{ℕ, ◌+◌, ◌-◌, ◌*◌, Bool, ◌==◌, ◌||◌, nat_lt, slice_index, if◌then◌else◌}
use Rattle.tendril_decode.specs.Machines.{Machine}
use Rattle.tendril_decode.specs.TwoBytes.{in_range, pair_of, two_bytes}
use Rattle.tendril_decode.specs.declared.tables.big5.TheConstants.{BIG5}
use Rattle.tendril_decode.specs.declared.two_bytes.First.{First}
use Rattle.tendril_decode.specs.declared.two_bytes.First.TheVariants.{Lead, Malformed}
use Rattle.tendril_decode.specs.declared.two_bytes.Pair.{Pair}
use Rattle.tendril_decode.specs.declared.two_bytes.Pair.TheVariants.{Two, Absent}
use Rattle.tendril_decode.specs.declared.two_bytes.TwoBytes.{TwoBytes}

abbrev pub big5_first : ℕ → First
big5_first b = if in_range 0x81 0xFE b then Lead else Malformed

-- what a pointer is: four are two characters, the others are by the index
unfoldable pub big5_at : ℕ → Pair
big5_at p =
    if p == 1133 then Two 0xCA 0x304 else (if p == 1135 then Two 0xCA 0x30C else (if p == 1164 then Two 0xEA 0x304
    else (if p == 1166 then Two 0xEA 0x30C else pair_of (slice_index BIG5 p))))

-- a trail is in one of two ranges, of 63 and of 94
abbrev pub is_big5_trail : ℕ → Bool
is_big5_trail b = in_range 0x40 0x7E b || in_range 0xA1 0xFE b

-- the place of a trail in its row
abbrev pub big5_cell : ℕ → ℕ
big5_cell b = if nat_lt b 0x7F then b - 0x40 else b - 0x62

unfoldable pub big5_pair : ℕ → ℕ → Pair
big5_pair l b = if is_big5_trail b then big5_at ((l - 0x81) * 157 + big5_cell b) else Absent

abbrev pub big5 : {E : Type 0} → Machine (TwoBytes E)
big5 = two_bytes big5_first big5_pair
