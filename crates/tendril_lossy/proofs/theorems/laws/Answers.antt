use Rattle.std.proofs.Common.{sym, subst}
use Rattle.tendril_lossy.specs.Lossy.{IsLossy}
use Rattle.tendril_lossy.proofs.Streams.{IsLossy-lossy, only_lossy, due_open-append, kept-append, due-append}
use Rattle.tendril_lossy.proofs.Resume.{after_text, after_broken, still_open}
use Rattle.tendril_lossy.proofs.theorems.laws.Goals as goal

pub returns-clause-items : goal.returns-clause-items
returns-clause-items c = λ bs items. (only_lossy bs items, λ e. subst (IsLossy bs) (sym e) (IsLossy-lossy bs))

pub returns-clause-goes_on : goal.returns-clause-goes_on
returns-clause-goes_on c = λ b p. (due_open-append b p, kept-append b p, due-append b p)

pub returns-clause-resumes : goal.returns-clause-resumes
returns-clause-resumes c = record { text = after_text; broken = after_broken; unfinished = still_open }
