-- Stored bytes that no other text shares.
use Rattle.std.specs.Prelude.{◌≡◌, ℕ, List, ◌<◌, ◌≤◌, length, take}
use Rattle.tendril_errors.specs.declared.limits.TheConstants.{INLINE_LEN, MAX_LEN}
use Rattle.tendril_storage.specs.declared.detached.Kept.{Kept}
use Rattle.tendril_storage.specs.declared.detached.Kept.TheVariants.{Inline, Alone}

-- the bytes
abbrev pub kept_bytes : Kept → List ℕ
kept_bytes (Inline len buffer) = take len buffer
kept_bytes (Alone len sole) = sole

-- inline bytes fit in the buffer; others are more than fit inline, and at most MAX_LEN; the length is theirs
abbrev pub IsKept : Kept → Type 0
IsKept (Inline len buffer) = len ≤ INLINE_LEN
IsKept (Alone len sole) = (INLINE_LEN < len) × (len ≤ MAX_LEN) × (len ≡ length sole)
