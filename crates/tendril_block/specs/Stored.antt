-- The bytes of a block: few are stored in the node itself, more in a vector.
use Rattle.std.specs.Prelude.{ℕ, List, ◌≤◌, vec_capacity}
use Rattle.tendril_block.specs.declared.inline_bytes.TheConstants.{NODE_CAPACITY}
use Rattle.tendril_block.specs.declared.stored.Stored.{Stored}
use Rattle.tendril_block.specs.declared.stored.Stored.TheVariants.{Small, Large}

-- the bytes that are stored
abbrev pub stored_bytes : Stored → List ℕ
stored_bytes (Small few) = few
stored_bytes (Large bytes) = bytes.items

-- the capacity is at least `count` bytes
abbrev pub HasRoom : Stored → ℕ → Type 0
HasRoom (Small few) count = count ≤ NODE_CAPACITY
HasRoom (Large bytes) count = count ≤ vec_capacity bytes
