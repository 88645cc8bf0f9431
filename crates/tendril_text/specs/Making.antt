-- Texts created from bytes.
use Rattle.std.specs.Prelude.{ℕ, ◌≡◌, List, length, Result}
use Rattle.tendril_errors.specs.declared.refusal.Refusal.{Refusal}
use Rattle.tendril_errors.specs.Outcomes.{LengthMust, BytesMust, MemoryMay, Gives}
use Rattle.tendril_storage.specs.Texts.{Text}

-- a text of the bytes b, which all count as copied
pub record IsTextOf (b : List ℕ) (t : Text) : Type 0 where
  pub bytes : t.bytes ≡ b
  pub copied : t.copied ≡ length b

-- a text is created from bytes that are valid
abbrev pub MakesText : List ℕ → Result Text Refusal → Type 0
MakesText b result = Gives (LengthMust (length b)) (MemoryMay (length b)) (IsTextOf b) result

-- a text is created from bytes, if they are valid
abbrev pub MakesValidText : (List ℕ → Type 0) → List ℕ → Result Text Refusal → Type 0
MakesValidText valid b result = Gives (BytesMust valid b (length b)) (MemoryMay (length b)) (IsTextOf b) result
