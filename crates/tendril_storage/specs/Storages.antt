-- Bytes that are stored inline or in a view of a block.
use Rattle.std.specs.Prelude.{◌≡◌, ℕ, List, ◌+◌, ◌≤◌, ◌<◌, ◌^◌, length, take, drop}
use Rattle.tendril_errors.specs.declared.limits.TheConstants.{INLINE_LEN}
use Rattle.tendril_storage.specs.declared.storage.BlockView.{BlockView}
use Rattle.tendril_storage.specs.declared.storage.Held.{Held}
use Rattle.tendril_storage.specs.declared.storage.Held.TheVariants.{Inline, View}

module _ {B : Type 0} where
  -- the stored bytes
  abbrev pub held_bytes : (B → List ℕ) → Held B → List ℕ
  held_bytes bytes_of (Inline len buffer) = take len buffer
  held_bytes bytes_of (View shared block offset len) = take len (drop offset (bytes_of block))

  -- how many bytes were copied for them
  abbrev pub held_copied : (B → ℕ) → Held B → ℕ
  held_copied copied (Inline len buffer) = len
  held_copied copied (View shared block offset len) = copied block

  -- inline bytes fit in the buffer; a view is within its block, and ends before 2 ^ 32
  abbrev pub IsHeld : (B → List ℕ) → Held B → Type 0
  IsHeld bytes_of (Inline len buffer) = len ≤ INLINE_LEN
  IsHeld bytes_of (View shared block offset len) = (offset + len ≤ length (bytes_of block)) × (offset + len < 2 ^ 32)

  -- the bytes are stored in this view
  abbrev pub IsView : Held B → BlockView B → Type 0
  IsView (Inline len buffer) v = ⊥
  IsView (View shared block offset len) v = (v.block ≡ block) × (v.offset ≡ offset) × (v.len ≡ len)

  -- the bytes are stored inline, in this buffer
  abbrev pub IsInline : Held B → ℕ → List ℕ → Type 0
  IsInline (Inline len buffer) n bytes = (n ≡ len) × (bytes ≡ buffer)
  IsInline (View shared block offset len) n bytes = ⊥
