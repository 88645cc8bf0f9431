-- Pops from the front of a rope: the bytes before one of a set, and lines.
use Rattle.std.specs.Prelude.{
  ℕ,
  ◌≡◌,
  ◌<◌,
  ◌⊎◌,
  Bool,
  true,
  false,
  List,
  [],
  length,
  Option,
  Some,
  None,
  Result,
  Ok,
  Err,
}
use Rattle.tendril_errors.specs.declared.refusal.Refusal.{Refusal}
use Rattle.rope_text.specs.Ropes.{RopeText}
use Rattle.rope_text.specs.Splits.{IsCutAt, SplitMay}
use Rattle.tendril_text.specs.Iterators.{PartComes}
use Rattle.tendril_fmt.specs.Sets.{EndsBefore}
use Rattle.tendril_fmt.specs.Cuts.{TakesLine}
use Rattle.tendril_text.specs.TextLists.{DropsFront}

-- a rope was cut before its first byte of the set, or at its end if it has none; it doesn't begin with that byte
pub record CutsBefore (set : ℕ → Bool) (old front rest : RopeText) : Type 0 where
  pub count : ℕ
  pub ends : EndsBefore set old.bytes count
  pub some : 0 < count
  pub cut : IsCutAt count old front rest

-- the errors that are permitted for a cut before the first byte of the set, or at the end
pub record CutBeforeMay (set : ℕ → Bool) (rope : RopeText) (r : Refusal) : Type 0 where
  pub count : ℕ
  pub ends : EndsBefore set rope.bytes count
  pub may : SplitMay rope.pieces count r

-- a rope was cut after its first line, and the line ending was dropped
pub record CutsLine (old line rest : RopeText) : Type 0 where
  pub takes : TakesLine old.bytes line.bytes rest.bytes
  pub after : RopeText
  pub cut : IsCutAt (length line.bytes) old line after
  pub loses : DropsFront after.pieces rest.pieces

-- the errors that are permitted for a cut after the first line
pub record CutLineMay (rope : RopeText) (r : Refusal) : Type 0 where
  pub line : List ℕ
  pub rest : List ℕ
  pub takes : TakesLine rope.bytes line rest
  pub may : SplitMay rope.pieces (length line) r

-- The next line of a rope: None after an error, or if nothing is left. `refused` and `then` say, before and after the
-- call, whether a call returned an error.
abbrev pub NextCutLine : RopeText → Bool → Option (Result RopeText Refusal) → RopeText → Bool → Type 0
NextCutLine rope refused None rest then =
    ((refused ≡ true) ⊎ (rope.bytes ≡ [])) × (rest ≡ rope) × (then ≡ refused)
NextCutLine rope refused (Some (Ok line)) rest then = PartComes refused then × CutsLine rope line rest
NextCutLine rope refused (Some (Err r)) rest then =
    (refused ≡ false) × (then ≡ true) × (rest ≡ rope) × CutLineMay rope r
