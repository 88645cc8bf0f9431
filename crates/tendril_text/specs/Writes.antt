-- Writing and printing into texts.
use Rattle.std.specs.Prelude.{
  ℕ,
  ◌≡◌,
  ◌≤◌,
  ◌⊎◌,
  List,
  ◌++◌,
  length,
  Option,
  Some,
  None,
  MatchOption,
  Result,
  MatchResult,
}
use Rattle.std.specs.declared.io.ErrorKind.{ErrorKind}
use Rattle.std.specs.declared.io.ErrorKind.TheVariants.{FileTooLarge, OutOfMemory}
use Rattle.tendril_text.specs.Items.{LengthRefused}
use Rattle.tendril_storage.specs.Texts.{Text}
use Rattle.tendril_errors.specs.declared.refusal.Refusal.{Refusal}
use Rattle.tendril_errors.specs.declared.refusal.Refusal.TheVariants.{TooLong, Memory}

-- an error of a push
abbrev pub IsGrowthRefusal : Refusal → Type 0
IsGrowthRefusal r = (r ≡ TooLong) ⊎ (r ≡ Memory)

-- the error of pushing a prefix of these bytes
abbrev pub IsFrontRefused : List ℕ → Refusal → Type 0
IsFrontRefused bytes r = (n : ℕ) × (n ≤ length bytes) × LengthRefused n r

-- what a printer has after these bytes: them, or the error of pushing a prefix of them
abbrev pub IsPrinted : List ℕ → List ℕ → Option Refusal → Type 0
IsPrinted bytes c q = MatchOption q (c ≡ bytes) (IsFrontRefused bytes)

-- the result for a value that prints these bytes: a text of them, or the error of pushing a prefix of them
abbrev pub Prints : List ℕ → Result Text Refusal → Type 0
Prints bytes result = MatchResult result (λ t. t.bytes ≡ bytes) (IsFrontRefused bytes)

-- What a printer does with a piece: its text b and the error of a push, if there was one, become c and q. It pushes the
-- piece, or stores the error of that push. After an error, nothing changes.
abbrev pub TakesPiece : List ℕ → Option Refusal → List ℕ → List ℕ → Option Refusal → Type 0
TakesPiece b None piece c q = MatchOption q (c ≡ b ++ piece) (λ r. (c ≡ b) × LengthRefused (length (b ++ piece)) r)
TakesPiece b (Some r) piece c q = (c ≡ b) × (q ≡ Some r)

-- the kind of the error of a write, after which a text would have `count` bytes
abbrev pub WriteRefused : ℕ → ErrorKind → Type 0
WriteRefused count FileTooLarge = LengthRefused count TooLong
WriteRefused count OutOfMemory = LengthRefused count Memory
WriteRefused count _ = ⊥
