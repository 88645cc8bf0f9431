-- Blocks of units of UTF-16 that are decoded at once. Only private clauses cite these.
use Rattle.std.specs.Prelude.{ℕ, ◌+◌, ◌*◌, Bool, List, map, slice_index, if◌then◌else◌}
use Rattle.std.specs.List.{range_with_len}
use Rattle.tendril_decode.specs.Utf16.{unit_of}

-- the unit of the bytes at 2 k and after it
abbrev pub unit_at : Bool → List ℕ → ℕ → ℕ
unit_at big bytes k = unit_of big (slice_index bytes (2 * k)) (slice_index bytes (2 * k + 1))

-- the first n units of bytes
abbrev pub first_units : Bool → List ℕ → ℕ → List ℕ
first_units big bytes n = map (unit_at big bytes) (range_with_len 0 n)

-- the first or the second byte of that unit
abbrev pub byte_at : Bool → List ℕ → ℕ → ℕ
byte_at second bytes k = if second then slice_index bytes (2 * k + 1) else slice_index bytes (2 * k)
