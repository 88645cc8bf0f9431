-- Runs of characters that are popped off a text.
use Rattle.std.specs.Prelude.{ℕ, ◌≡◌, ◌<◌, ◌+◌, List, length, Bool}
use Rattle.tendril_errors.specs.declared.limits.TheConstants.{INLINE_LEN}
use Rattle.tendril_fmt.specs.Runs.{EndsRun}

-- Calls of a classifier. `step f c r f'` says that the classifier f, called with the character c, may return r and
-- become f'; `eq` compares results.
module _ {F R : Type 0} (step : F → ℕ → R → F → Type 0) (eq : R → R → Bool) where
  -- such a run and the remainder have more than 8 bytes each
  pub record HasLongParts (valid : List ℕ → Type 0) (chars : List ℕ → List ℕ) (classify : F)
      (text : List ℕ) : Type 0 where
    pub class : R
    pub end : ℕ
    pub after : F
    pub run : EndsRun step eq valid chars classify class text end after
    pub long : INLINE_LEN < end
    pub long_rest : INLINE_LEN + end < length text

  -- such a run and the remainder have more than 8 bytes each, and the classifier becomes `last`
  abbrev pub AsksLongRun : (List ℕ → Type 0) → (List ℕ → List ℕ) → F → List ℕ → F → Type 0
  AsksLongRun valid chars classify text last =
      (have : HasLongParts valid chars classify text) × (have.after ≡ last)
