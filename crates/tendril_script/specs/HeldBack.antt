-- What lines print: a suffix of it is held back, the prefix was written.
use Rattle.std.specs.Prelude.{ℕ, ◌≡◌, List, [], ◌++◌, take, get_or, Option}
use Rattle.std.specs.Io.KnownBytes.{Appends}
use Rattle.tendril_errors.specs.declared.refusal.Refusal.{Refusal}
use Rattle.tendril_errors.specs.declared.refusal.Refusal.TheVariants.{Memory, Io}
use Rattle.tendril_script.specs.Sessions.{LineStops, Session}

-- `bytes` follow what was held back; a writer whose bytes are known got a prefix of it all, and `left` is the remainder
pub record Passes (before after : Option (List ℕ)) (held bytes left : List ℕ) : Type 0 where
  pub taken : List ℕ
  pub appends : Appends before after taken
  pub splits : held ++ bytes ≡ taken ++ left

module _ {S : Type 0} (answers : S → List ℕ → List ℕ → S → Type 0) where
  -- lines print bytes that are held back or written in this way
  pub record PrintsLines (old : S) (lines : List (List ℕ)) (new : S) (before after : Option (List ℕ))
      (held left : List ℕ) : Type 0 where
    pub bytes : List ℕ
    pub session : Session answers old lines bytes new
    pub passes : Passes before after held bytes left

  -- After an error the first `count` lines have printed. Memory is the error of the next line; what the first `count`
  -- printed is written or held back. Io is the error of a write: nothing is held back, and the end of what they printed
  -- may be lost.
  abbrev pub PrintsSome : S → List (List ℕ) → S → Option (List ℕ) → Option (List ℕ) → List ℕ → List ℕ → Refusal → Type 0
  PrintsSome old lines new before after held left Memory =
      (count : ℕ) × ((mid : S) × (PrintsLines old (take count lines) mid before after held left
      × LineStops answers mid (get_or lines count []) new))
  PrintsSome old lines new before after held left Io =
      (left ≡ []) × ((count : ℕ) × ((lost : List ℕ) × PrintsLines old (take count lines) new before after held lost))
  PrintsSome old lines new before after held left other = ⊥
