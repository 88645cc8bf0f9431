-- A session: the lines of a script, one after another, and what is written for them.
use Rattle.std.specs.Prelude.{ℕ, ◌≡◌, ◌⊎◌, ◌==◌, List, [], ◌∷◌, ◌++◌, Option, IfSome}
use Rattle.std.specs.List.{slice_split}
use Rattle.std.specs.Io.KnownBytes.{Appends}

-- the lines of a script, the empty ones too
abbrev pub lines : List ℕ → List (List ℕ)
lines script = slice_split (λ byte. byte == 10) script

-- Over any states: `answers old line text new` says that a line, which isn't empty, prints this text and leads from the
-- state `old` to the state `new`.
module _ {S : Type 0} (answers : S → List ℕ → List ℕ → S → Type 0) where
  -- what is written for a line: its answer and a line feed, nothing for an empty one
  abbrev pub LinePrints : S → List ℕ → List ℕ → S → Type 0
  LinePrints old [] bytes new = (bytes ≡ []) × (new ≡ old)
  LinePrints old (byte ∷ line) bytes new =
      (text : List ℕ) × (answers old (byte ∷ line) text new × (bytes ≡ text ++ 10 ∷ []))

  -- what a line leaves that returned Memory: it has changed nothing, or was carried out and its text is lost
  abbrev pub LineStops : S → List ℕ → S → Type 0
  LineStops old line new = (new ≡ old) ⊎ ((text : List ℕ) × answers old line text new)

  -- what is written for lines, one after another
  abbrev pub Session : S → List (List ℕ) → List ℕ → S → Type 0
  Session old [] bytes new = (bytes ≡ []) × (new ≡ old)
  Session old (line ∷ lines) bytes new =
      (mid : S)
      × ((first : List ℕ)
      × ((rest : List ℕ) × (LinePrints old line first mid × (Session mid lines rest new × (bytes ≡ first ++ rest)))))

  -- a writer whose bytes are known got what is written for a line
  pub record WritesLine (old : S) (line : List ℕ) (new : S) (before after : Option (List ℕ)) : Type 0 where
    pub bytes : List ℕ
    pub writes : LinePrints old line bytes new
    pub appends : Appends before after bytes

  -- a writer whose bytes are known got what is written for lines
  pub record WritesLines (old : S) (lines : List (List ℕ)) (new : S) (before after : Option (List ℕ)) : Type 0 where
    pub bytes : List ℕ
    pub session : Session old lines bytes new
    pub appends : Appends before after bytes

  -- `WritesLines`, to any new state
  abbrev pub WritesFrom : S → List (List ℕ) → Option (List ℕ) → Option (List ℕ) → Type 0
  WritesFrom old lines before after = (new : S) × WritesLines old lines new before after

  -- `WritesLines` for the script that is left in a reader, if its remaining bytes are known
  abbrev pub RanTo : S → S → Option (List ℕ) → Option (List ℕ) → Option (List ℕ) → Type 0
  RanTo old new remaining before after = IfSome remaining (λ script. WritesLines old (lines script) new before after)

  -- `RanTo`, to any new state
  abbrev pub RanFrom : S → Option (List ℕ) → Option (List ℕ) → Option (List ℕ) → Type 0
  RanFrom old remaining before after = IfSome remaining (λ script. WritesFrom old (lines script) before after)
