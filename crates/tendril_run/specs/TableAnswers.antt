-- What the lines of a script print that are commands on a table.
use Rattle.std.specs.Prelude.{ℕ, ◌≡◌, ◌⊎◌, List}
use Rattle.tendril_lines.specs.Shapes.{AreVerbAndWords}
use Rattle.tendril_lines.specs.Words.{words}
use Rattle.tendril_lines.specs.declared.shape.Values.{Values}
use Rattle.tendril_script.specs.Commands.{CommandAnswers}

-- this is the line of a command, whose verb and values are its spelling
abbrev pub IsSpelt : {C : Type 0} → (C → List ℕ × Values) → C → List ℕ → Type 0
IsSpelt spelling command line = AreVerbAndWords (spelling command) (words line)

-- the reply to a command: that of its step, or `memory` before the step, and nothing changed
abbrev pub TableReplies : {S C R : Type 0} → (S → C → R → S → Type 0) → R → S → C → R → S → Type 0
TableReplies step memory old command reply new = step old command reply new ⊎ ((reply ≡ memory) × (new ≡ old))

-- what a line prints: the text of the reply to the command that it spells, or `malformed`
abbrev pub TableAnswers : {S C R : Type 0} → (C → List ℕ × Values) → (S → C → R → S → Type 0) → R → (R → List ℕ) → S
    → List ℕ → List ℕ → S → Type 0
TableAnswers spelling step memory text_of = CommandAnswers (IsSpelt spelling) (TableReplies step memory) text_of
