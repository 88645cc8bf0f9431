-- Texts that are split: at bytes of a set, and into lines.
use Rattle.std.specs.Prelude.{ℕ, ◌≡◌, ◌⊎◌, Bool, true, false, List, ◌∷◌, ◌++◌, length, Option, Some, None, Result, Ok}
use Rattle.std.specs.Prelude.{Err}
use Rattle.std.specs.Str.Iter.{LacksByte}
use Rattle.tendril_errors.specs.declared.refusal.Refusal.{Refusal}
use Rattle.tendril_errors.specs.Outcomes.{CountMay}
use Rattle.tendril_storage.specs.Partings.{BothLong}
use Rattle.tendril_storage.specs.Texts.{Text, SplitCost}
use Rattle.tendril_text.specs.Iterators.{IsOver, IsRefusedNow, PartComes}
use Rattle.tendril_text.specs.Search.{HasLongPartBefore}
use Rattle.tendril_fmt.specs.Cuts.{TakesSplit, TakesLine}

-- the first line of a text has more than 8 bytes, and more than 8 bytes follow
pub record HasLongLine (text : List ℕ) (r : Refusal) : Type 0 where
  pub line : List ℕ
  pub rest : List ℕ
  pub takes : TakesLine text line rest
  pub long : BothLong (length line) (length text) r

-- the sides of the first byte c of a text, one of them with more than 8 bytes, for which Count is permitted
pub record HasLongSide (c : ℕ) (text : List ℕ) (r : Refusal) : Type 0 where
  pub front : List ℕ
  pub back : List ℕ
  pub first : LacksByte c front
  pub joined : text ≡ front ++ c ∷ back
  pub long : CountMay (length front) r ⊎ CountMay (length back) r

-- what `next` returns for the parts between bytes of a set
abbrev pub NextSplit : (ℕ → Bool) → Text → Bool → Option (Result Text Refusal) → Text → Bool → Type 0
NextSplit set text over None rest then = (over ≡ true) × (rest ≡ text) × (then ≡ over)
NextSplit set text over (Some (Ok part)) rest then =
    (over ≡ false) × TakesSplit set text.bytes part.bytes rest.bytes then × SplitCost text part rest
NextSplit set text over (Some (Err r)) rest then = IsRefusedNow text over rest then × HasLongPartBefore set text.bytes r

-- what `next` returns for lines
abbrev pub NextLine : Text → Bool → Option (Result Text Refusal) → Text → Bool → Type 0
NextLine text refused None rest then = IsOver text refused rest then
NextLine text refused (Some (Ok line)) rest then =
    PartComes refused then × TakesLine text.bytes line.bytes rest.bytes × SplitCost text line rest
NextLine text refused (Some (Err r)) rest then = IsRefusedNow text refused rest then × HasLongLine text.bytes r
