-- Lines that are commands, and what they print.
use Rattle.std.specs.Prelude.{ℕ, ◌≡◌, ◌⊎◌, List, codes}

-- Over any commands and replies: `IsOf` says which lines spell a command, `Gives` what a command does and its reply,
-- and `text_of` is the text of a reply.
module _ {S C R : Type 0} (IsOf : C → List ℕ → Type 0) (Gives : S → C → R → S → Type 0) (text_of : R → List ℕ) where
  -- a line that spells a command prints the reply to it
  pub record IsAnswered (old : S) (line text : List ℕ) (new : S) : Type 0 where
    pub command : C
    pub reply : R
    pub is_line : IsOf command line
    pub replies : Gives old command reply new
    pub prints : text ≡ text_of reply

  -- any other line prints `malformed` and changes nothing
  pub record IsMalformed (old : S) (line text : List ℕ) (new : S) : Type 0 where
    pub no_command : (command : C) → IsOf command line → ⊥
    pub prints : text ≡ codes "malformed"
    pub same : new ≡ old

  abbrev pub CommandAnswers : S → List ℕ → List ℕ → S → Type 0
  CommandAnswers old line text new = IsAnswered old line text new ⊎ IsMalformed old line text new
