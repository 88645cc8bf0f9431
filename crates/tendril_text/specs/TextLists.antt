-- Texts one after another: those of a rope, of a queue, or of a stream's lines.
use Rattle.std.specs.Prelude.{◌≡◌, ℕ, ◌⊎◌, List, [], ◌∷◌, ◌++◌, flat_map}
use Rattle.tendril_storage.specs.Texts.{Text, PopCost}

-- the bytes of texts, one after another
abbrev pub bytes_of_all : List Text → List ℕ
bytes_of_all texts = flat_map (λ t. t.bytes) texts

-- no text: what follows the last one
abbrev pub no_text : Text
no_text = record { bytes = []; copied = 0 }

-- the list of the text, or the empty list if there are no bytes
abbrev pub listed_unless_empty : List ℕ → Text → List Text
listed_unless_empty [] t = []
listed_unless_empty (x ∷ xs) t = t ∷ []

abbrev pub unless_empty : Text → List Text
unless_empty t = listed_unless_empty t.bytes t

-- the first text of a list is replaced by its remainder, or removed if that is empty
pub record LeavesOfFirst (old : List Text) (first left : Text) (new : List Text) : Type 0 where
  pub rest : List Text
  pub had : old ≡ first ∷ rest
  pub has : new ≡ unless_empty left ++ rest

-- the first text of a list has lost a prefix, or is removed
pub record LosesFront (old new : List Text) : Type 0 where
  pub first : Text
  pub left : Text
  pub leaves : LeavesOfFirst old first left new
  pub lost : List ℕ
  pub bytes : first.bytes ≡ lost ++ left.bytes
  pub keeps : PopCost first left

-- some of the first texts are gone, and the first that is left may have lost a prefix
pub record DropsFront (old new : List Text) : Type 0 where
  pub gone : List Text
  pub others : List Text
  pub had : old ≡ gone ++ others
  pub has : (new ≡ others) ⊎ LosesFront others new
