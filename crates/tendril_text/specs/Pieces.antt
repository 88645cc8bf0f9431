-- A prefix that is removed from a text, and the bytes that end it.
use Rattle.std.specs.Prelude.{ℕ, ◌≡◌, ◌+◌, length, take, drop, Result}
use Rattle.tendril_errors.specs.declared.refusal.Refusal.{Refusal}
use Rattle.tendril_errors.specs.Outcomes.{NoneMust, Outcome}
use Rattle.tendril_storage.specs.Partings.{BothLong}
use Rattle.tendril_storage.specs.Texts.{Text, SplitCost}

-- the first `count` bytes of a text are returned, the `ending` bytes after them are dropped, and the remainder is left
pub record IsPieceTaken (count ending : ℕ) (old piece rest : Text) : Type 0 where
  pub piece_bytes : piece.bytes ≡ take count old.bytes
  pub rest_bytes : rest.bytes ≡ drop (count + ending) old.bytes
  pub copied : SplitCost old piece rest

abbrev pub TakesPiece : ℕ → ℕ → Text → Result Text Refusal → Text → Type 0
TakesPiece count ending old result new =
    Outcome NoneMust (BothLong count (length old.bytes)) (IsPieceTaken count ending old) old result new
