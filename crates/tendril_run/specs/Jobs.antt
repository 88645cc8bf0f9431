-- How the jobs of workers end.
use Rattle.std.specs.Prelude.{ℕ, ◌≡◌, List}
use Rattle.tendril_errors.specs.declared.refusal.Refusal.TheVariants.{Memory}
use Rattle.tendril_run.specs.Cells.{Cell}
use Rattle.tendril_run.specs.Chains.{Chain}
use Rattle.tendril_run.specs.Steps.{Step}
use Rattle.tendril_lines.specs.declared.command.Command.{Command}
use Rattle.tendril_run.specs.declared.workers.Outcome.{Outcome}
use Rattle.tendril_run.specs.declared.workers.Outcome.TheVariants.{Done, Refused, NotStarted}

-- how a job ends: after the chain of its commands, with Memory and its table as before, or not started
abbrev pub JobEnds : (ℕ → ℕ) → List Cell → List Command → Outcome → Type 0
JobEnds class old commands (Done table replies) = Chain (Step class) old commands replies.items table.cells
JobEnds class old commands (Refused table refusal) = (refusal ≡ Memory) × (table.cells ≡ old)
JobEnds class old commands NotStarted = Unit {0}

-- a thread was started for the job
abbrev pub IsBegun : Outcome → Type 0
IsBegun (Done table replies) = Unit {0}
IsBegun (Refused table refusal) = Unit {0}
IsBegun NotStarted = ⊥
