-- Iterators that split a text, up to the first error.
use Rattle.std.specs.Prelude.{
  ℕ,
  ◌≡◌,
  ◌+◌,
  ◌⊎◌,
  ◌++◌,
  Bool,
  true,
  false,
  List,
  [],
  length,
  Option,
  Some,
  None,
  Result,
  Ok,
  Err,
  MatchOption,
}
use Rattle.tendril_errors.specs.declared.refusal.Refusal.{Refusal}
use Rattle.tendril_errors.specs.declared.refusal.Refusal.TheVariants.{Count}
use Rattle.tendril_storage.specs.Texts.{Text, PopCost, SplitCost}
use Rattle.tendril_text.specs.declared.search.SetResult.{SetResult}
use Rattle.tendril_text.specs.Characters.{AsksLongRun}
use Rattle.tendril_fmt.specs.Runs.{AsksRun}
use Rattle.tendril_text.specs.Search.{HasLongPartBefore, TakesPart, part_bytes}

-- what is left of a text after `next` for a character: the text if it returned None, else the text after a pop
abbrev pub IsLeftBy : Option ℕ → Text → Text → Type 0
IsLeftBy found text rest = MatchOption found (rest ≡ text) (λ _. PopCost text rest)

-- the most items that may follow: none after an error, else one for each byte, and one more
abbrev pub parts_left : Bool → List ℕ → ℕ
parts_left true b = 0
parts_left false b = length b + 1

-- `next` returns None, after an error or because nothing is left
abbrev pub IsOver : Text → Bool → Text → Bool → Type 0
IsOver text refused rest then = ((refused ≡ true) ⊎ (text.bytes ≡ [])) × (rest ≡ text) × (then ≡ refused)

-- `next` returns a part, and there was no error
abbrev pub PartComes : Bool → Bool → Type 0
PartComes refused then = (refused ≡ false) × (then ≡ false)

-- `next` returns an error, and the text doesn't change
abbrev pub IsRefusedNow : Text → Bool → Text → Bool → Type 0
IsRefusedNow text refused rest then = (refused ≡ false) × (then ≡ true) × (rest ≡ text)

-- the next run of characters of one class is removed from the text
module _ {F R : Type 0} (step : F → ℕ → R → F → Type 0) (eq : R → R → Bool) (valid : List ℕ → Type 0)
    (chars : List ℕ → List ℕ) where
  abbrev pub NextRun : Text → F → Bool → Option (Result (Text × R) Refusal) → Text → F → Bool → Type 0
  NextRun text classify refused None rest last then = IsOver text refused rest then × (last ≡ classify)
  NextRun text classify refused (Some (Ok run)) rest last then =
      PartComes refused then × AsksRun step eq valid chars classify run.1 text.bytes run.0.bytes rest.bytes last
      × SplitCost text run.0 rest
  NextRun text classify refused (Some (Err r)) rest last then =
      IsRefusedNow text refused rest then × (r ≡ Count)
      × AsksLongRun step eq valid chars classify text.bytes last

-- the next text between characters of a set is removed from the text, or the next of these characters
module _ {F A B : _} (chars : List ℕ → List ℕ) (encoding : ℕ → List ℕ) (set : ℕ → Bool) where
  abbrev pub NextPart : Text → Bool → Option (Result (SetResult F A B) Refusal) → Text → Bool → Type 0
  NextPart text refused None rest then = IsOver text refused rest then
  NextPart text refused (Some (Ok part)) rest then =
      PartComes refused then × TakesPart chars encoding set text part rest
      × (text.bytes ≡ part_bytes encoding part ++ rest.bytes)
  NextPart text refused (Some (Err r)) rest then =
      IsRefusedNow text refused rest then × HasLongPartBefore set text.bytes r
