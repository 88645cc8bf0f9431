-- Kept bytes that are completed from the input after them.
use Rattle.std.specs.Prelude.{◌≡◌, ℕ, ◌<◌, ◌≤◌, ◌+◌, ◌-◌, ◌⊎◌, List, [], ◌++◌, length, take, drop, IsUtf8}
use Rattle.std.specs.Str.{StartsWithNoChar}
use Rattle.tendril_lossy.specs.Lossy.{IsIncomplete, IsMaximalSubpart}
use Rattle.tendril_lossy.specs.declared.completion.Completion.{Completion}
use Rattle.tendril_lossy.specs.declared.completion.Completion.TheVariants.{Text, Broken, Open}

-- t is the longest valid prefix of the bytes
pub record IsLongestText (bs t : List ℕ) : Type 0 where
  pub front : t ≡ take (length t) bs
  pub text : IsUtf8 t
  pub longest : (m : ℕ) → length t < m → m ≤ length bs → IsUtf8 (take m bs) → ⊥

-- The kept bytes, filled up to four from the input, have the longest valid prefix t, and `rest` of the input remains.
-- The text t is empty only if there are no bytes at all.
pub record CompletesTo (kept input t rest : List ℕ) : Type 0 where
  pub all : kept ++ input ≡ t ++ rest
  pub longest : IsLongestText (take 4 (kept ++ input)) t
  pub covers : length kept ≤ length t
  pub within : length t ≤ length kept + length input
  pub left : rest ≡ drop (length t - length kept) input
  pub some : (0 < length t) ⊎ (kept ++ input ≡ [])

-- kept bytes and input begin with no character, b is their maximal subpart, and `rest` of the input remains
pub record BreaksAt (kept input b rest : List ℕ) : Type 0 where
  pub all : kept ++ input ≡ b ++ rest
  pub none : StartsWithNoChar (kept ++ input)
  pub closed : IsIncomplete (kept ++ input) → ⊥
  pub maximal : IsMaximalSubpart (kept ++ input) (length b)
  pub covers : length kept ≤ length b
  pub within : length b ≤ length kept + length input
  pub left : rest ≡ drop (length b - length kept) input

-- `held`, the kept bytes and all of the input, is still only the beginning of a character
pub record StillOpen (kept input held : List ℕ) : Type 0 where
  pub all : held ≡ kept ++ input
  pub waits : IsIncomplete held
  pub some : 0 < length held

-- what each completion says of the kept bytes and the input
abbrev pub Completes : List ℕ → List ℕ → Completion → Type 0
Completes kept input (Text t) = CompletesTo kept input t (drop (length t - length kept) input)
Completes kept input (Broken b) = BreaksAt kept input b (drop (length b - length kept) input)
Completes kept input (Open held) = StillOpen kept input held
