-- Ropes that are cut in two.
use Rattle.std.specs.Prelude.{◌≡◌, ℕ, ◌<◌, ◌≤◌, ◌+◌, ◌⊎◌, List, [], ◌∷◌, ◌++◌, length, take, drop, IsUtf8, Result}
use Rattle.tendril_errors.specs.declared.limits.TheConstants.{INLINE_LEN}
use Rattle.tendril_errors.specs.declared.refusal.Refusal.{Refusal}
use Rattle.tendril_errors.specs.declared.refusal.Refusal.TheVariants.{Count}
use Rattle.tendril_errors.specs.Outcomes.{CutMust, Outcome}
use Rattle.rope_text.specs.Growth.{RoomMay}
use Rattle.rope_text.specs.Ropes.{RopeText}
use Rattle.tendril_text.specs.TextLists.{bytes_of_all}
use Rattle.tendril_text.specs.Texts.{Text, ShareCost, PopCost}

-- a list of pieces was cut within one of them, whose prefix shares its bytes
pub record IsCutWithin (old front rest : List Text) : Type 0 where
  pub before : List Text
  pub piece : Text
  pub after : List Text
  pub left : Text
  pub right : Text
  pub had : old ≡ before ++ (piece ∷ after)
  pub front_has : front ≡ before ++ (left ∷ [])
  pub rest_has : rest ≡ right ∷ after
  pub whole : piece.bytes ≡ left.bytes ++ right.bytes
  pub shares : ShareCost left
  pub keeps : PopCost piece right

-- a rope was cut after `count` bytes, between two pieces or within one
pub record IsCutAt (count : ℕ) (old front rest : RopeText) : Type 0 where
  pub front_bytes : front.bytes ≡ take count old.bytes
  pub rest_bytes : rest.bytes ≡ drop count old.bytes
  pub pieces : (old.pieces ≡ front.pieces ++ rest.pieces) ⊎ IsCutWithin old.pieces front.pieces rest.pieces

-- a cut after `count` bytes is within a piece, and more than 8 bytes of that piece are before it
pub record HasLongFront (pieces : List Text) (count : ℕ) : Type 0 where
  pub before : List Text
  pub piece : Text
  pub after : List Text
  pub parts : pieces ≡ before ++ (piece ∷ after)
  pub is_long : length (bytes_of_all before) + INLINE_LEN < count
  pub within : count < length (bytes_of_all before) + length piece.bytes

-- Count is possible if the cut is within a piece, after more than 8 of its bytes, and Memory for the list of pieces
abbrev pub SplitMay : List Text → ℕ → Refusal → Type 0
SplitMay pieces count r = ((r ≡ Count) × HasLongFront pieces count) ⊎ RoomMay count r

-- the first `count` bytes are removed and returned as a rope, if they are there and UTF-8
abbrev pub SplitsOff : ℕ → RopeText → Result RopeText Refusal → RopeText → Type 0
SplitsOff count old result new =
    Outcome (CutMust (count ≤ length old.bytes) IsUtf8 (take count old.bytes)) (SplitMay old.pieces count)
    (λ front rest. IsCutAt count old front rest) old result new
