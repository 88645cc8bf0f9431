-- Packed entries of an encoding of one byte a character.
use Rattle.std.specs.Prelude.{◌≡◌, ℕ, ◌/◌, ◌^◌, ◌<◌, ◌≤◌, List, [], ◌∷◌, take, slice_index, encode_utf8}
use Rattle.std.specs.Char.{IsScalar}
use Rattle.std.specs.Int.{to_le_bytes, w32}
use Rattle.tendril_lossy.specs.Lossy.{Char}
use Rattle.tendril_decode.specs.Machines.{invalid}
use Rattle.tendril_decode.specs.Single.{tells_byte}

-- the number of bytes of an entry, and the bytes
abbrev pub entry_len : ℕ → ℕ
entry_len e = e / 2 ^ 24

abbrev pub entry_bytes : ℕ → List ℕ
entry_bytes e = take (entry_len e) (to_le_bytes w32 e)

-- the entry of a byte has the UTF-8 of its character, or nothing
pub record IsPacked (table : List ℕ) (b e : ℕ) : Type 0 where
  pub few : entry_len e ≤ 3
  pub broken : entry_len e ≡ 0 → tells_byte table b ≡ invalid
  pub char : 0 < entry_len e
      → (c : ℕ) × IsScalar c × (tells_byte table b ≡ Char c ∷ []) × (entry_bytes e ≡ encode_utf8 c)

-- so has the entry of each byte
pub record ArePacked (table entries : List ℕ) : Type 0 where
  pub each : (b : ℕ) → b < 256 → IsPacked table b (slice_index entries b)
