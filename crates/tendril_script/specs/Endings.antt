-- What the writers have when an error ends the run of a script.
use Rattle.std.specs.Prelude.{ℕ, ◌≡◌, ◌⊎◌, List, [], take, get_or, Option, IfSome}
use Rattle.tendril_errors.specs.declared.refusal.Refusal.{Refusal}
use Rattle.tendril_errors.specs.declared.refusal.Refusal.TheVariants.{Memory, Io}
use Rattle.tendril_script.specs.Sessions.{LineStops, Session, WritesLines, lines}
use Rattle.tendril_script.specs.Writing.{AppendsFront, complaint}

-- the errors that end a program that runs a script
abbrev pub EndsProgram : Refusal → Type 0
EndsProgram refusal = (refusal ≡ Memory) ⊎ (refusal ≡ Io)

-- An error ended the program with this name: standard error has its line, or a prefix of it. `Stops` says what the
-- error leaves.
pub record EndedBy (Stops : Refusal → Type 0) (program : List ℕ) (told told' : Option (List ℕ)) : Type 0 where
  pub refusal : Refusal
  pub stops : Stops refusal
  pub tells : AppendsFront told told' (complaint program refusal)

module _ {S : Type 0} (answers : S → List ℕ → List ℕ → S → Type 0) where
  -- a writer whose bytes are known got a prefix of what is written for lines
  pub record WritesFrontOfLines (old : S) (lines : List (List ℕ)) (new : S)
      (before after : Option (List ℕ)) : Type 0 where
    pub bytes : List ℕ
    pub session : Session answers old lines bytes new
    pub front : AppendsFront before after bytes

  -- What an error leaves of a run over lines. Memory: all that the first `count` lines print, in whole lines; the line
  -- after them, which failed, leads to the state that is left. Io: a prefix of what the first `count` lines print.
  abbrev pub RunStops : S → List (List ℕ) → S → Option (List ℕ) → Option (List ℕ) → Refusal → Type 0
  RunStops old lines new before after Memory =
      (count : ℕ) × ((mid : S) × (WritesLines answers old (take count lines) mid before after
      × LineStops answers mid (get_or lines count []) new))
  RunStops old lines new before after Io =
      (count : ℕ) × ((mid : S) × (WritesFrontOfLines old (take count lines) mid before after
      × LineStops answers mid (get_or lines count []) new))
  RunStops old lines new before after other = ⊥

  -- what an error leaves of a run over the remaining bytes of a reader, if these are known
  pub record RunHalts (old : S) (remaining before after : Option (List ℕ)) (refusal : Refusal) : Type 0 where
    pub ends : EndsProgram refusal
    pub stops : IfSome remaining (λ script. (new : S) × RunStops old (lines script) new before after refusal)

  -- an error of a run ended the program with this name
  abbrev pub RunEnded : List ℕ → S → Option (List ℕ) → Option (List ℕ) → Option (List ℕ) → Option (List ℕ)
      → Option (List ℕ) → Type 0
  RunEnded program old remaining before after told told' =
      EndedBy (RunHalts old remaining before after) program told told'
