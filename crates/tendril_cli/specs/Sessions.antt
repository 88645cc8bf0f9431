-- What the lines of a script print, on a table of texts that is empty at first.
use Rattle.std.specs.Prelude.{ℕ, List, [], Option}
use Rattle.tendril_errors.specs.declared.refusal.Refusal.TheVariants.{Memory}
use Rattle.tendril_run.specs.Cells.{Cell}
use Rattle.tendril_lines.specs.Lines.{words_of}
use Rattle.tendril_lines.specs.Printed.{printed}
use Rattle.tendril_run.specs.Steps.{Step}
use Rattle.tendril_run.specs.TableAnswers.{TableAnswers}
use Rattle.tendril_lines.specs.declared.command.Reply.TheVariants.{Refused}
use Rattle.tendril_script.specs.Sessions.{RanFrom}
use Rattle.tendril_run.specs.WhiteSpace.{class}

-- what a line prints: the reply to the command that it spells, or `malformed`
abbrev pub Answers : List Cell → List ℕ → List ℕ → List Cell → Type 0
Answers = TableAnswers words_of (Step class) (Refused Memory) printed

-- the writer got what is written for the script that the reader had left, if their bytes are known
abbrev pub Ran : Option (List ℕ) → Option (List ℕ) → Option (List ℕ) → Type 0
Ran remaining before after = RanFrom Answers [] remaining before after
