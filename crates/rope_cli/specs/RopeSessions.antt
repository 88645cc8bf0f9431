-- What the lines of a script print, on a table of texts and ropes that is empty at first.
use Rattle.std.specs.Prelude.{ℕ, List, Option}
use Rattle.tendril_errors.specs.declared.refusal.Refusal.TheVariants.{Memory}
use Rattle.tendril_lines.specs.declared.command.Reply.TheVariants.{Refused}
use Rattle.rope_run.specs.RopeCells.{Cells, no_cells}
use Rattle.rope_run.specs.RopeLines.{rope_words_of}
use Rattle.rope_run.specs.RopePrinted.{rope_printed}
use Rattle.rope_run.specs.RopeSteps.{RopeStep}
use Rattle.rope_run.specs.declared.command.RopeReply.TheVariants.{Plain}
use Rattle.tendril_script.specs.Sessions.{RanFrom}
use Rattle.tendril_run.specs.TableAnswers.{TableAnswers}
use Rattle.tendril_run.specs.WhiteSpace.{class}

-- what a line prints: the reply to the command that it spells, or `malformed`
abbrev pub RopeAnswers : Cells → List ℕ → List ℕ → Cells → Type 0
RopeAnswers = TableAnswers rope_words_of (RopeStep class) (Plain (Refused Memory)) rope_printed

-- the writer got what is written for the script that the reader had left, if their bytes are known
abbrev pub RopesRan : Option (List ℕ) → Option (List ℕ) → Option (List ℕ) → Type 0
RopesRan remaining before after = RanFrom RopeAnswers no_cells remaining before after
