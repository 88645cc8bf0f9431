-- Texts without the white space at their ends.
use Rattle.std.specs.Prelude.{ℕ, List, Result}
use Rattle.tendril_errors.specs.declared.refusal.Refusal.{Refusal}
use Rattle.tendril_storage.specs.Texts.{Text}
use Rattle.tendril_text.specs.Parts.{Clones}
use Rattle.tendril_fmt.specs.Cuts.{IsTrimOf}

-- a text of the bytes b is trimmed to one that shares them
pub record Trims (b : List ℕ) (result : Result Text Refusal) : Type 0 where
  pub kept : List ℕ
  pub trim : IsTrimOf b kept
  pub clones : Clones kept result
