-- Texts as contracts see them, and the bytes that clones, slices, pops and splits may copy.
use Rattle.std.specs.Prelude.{ℕ, ◌≡◌, ◌<◌, ◌≤◌, ◌+◌, ◌⊎◌, List, length}
use Rattle.tendril_errors.specs.declared.limits.TheConstants.{INLINE_LEN}

-- a text: its bytes, and how many bytes were copied for it
pub record Text : Type 0 where
  pub bytes : List ℕ
  pub copied : ℕ

-- a clone or a slice: with more than 8 bytes nothing was copied for it, else at most 8 bytes
abbrev pub ShareCost : Text → Type 0
ShareCost t = (INLINE_LEN < length t.bytes → t.copied ≡ 0) × (length t.bytes ≤ INLINE_LEN → t.copied ≤ INLINE_LEN)

-- a text after a pop: with more than 8 bytes its `copied` is unchanged, else it is at most 8
abbrev pub PopCost : Text → Text → Type 0
PopCost old new =
    (INLINE_LEN < length new.bytes → new.copied ≡ old.copied)
    × (length new.bytes ≤ INLINE_LEN → new.copied ≤ INLINE_LEN)

-- one side of a split text: with more than 8 bytes its `copied` is 0 or unchanged, else it is at most 8
abbrev pub PartCost : Text → Text → Type 0
PartCost old part =
    (INLINE_LEN < length part.bytes → (part.copied ≡ 0) ⊎ (part.copied ≡ old.copied))
    × (length part.bytes ≤ INLINE_LEN → part.copied ≤ INLINE_LEN)

-- both sides of a split text: together they copied at most 16 bytes more
abbrev pub SplitCost : Text → Text → Text → Type 0
SplitCost old front rest = PartCost old front × PartCost old rest × (front.copied + rest.copied ≤ old.copied + 16)
