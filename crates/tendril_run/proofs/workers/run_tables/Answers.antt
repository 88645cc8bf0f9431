use Rattle.std.proofs.Common.{◌≡◌, MatchOption, IfSome, Some, None, sym, subst}
use Rattle.tendril_run.specs.Jobs.{JobEnds, IsBegun}
use Rattle.tendril_run.specs.declared.workers.Outcome.TheVariants.{NotStarted}
use Rattle.tendril_run.proofs.Pairs.{AllZip-through}
use Rattle.tendril_run.proofs.workers.run_tables.Goals as goal

pub returns-clause-ok : goal.returns-clause-ok
returns-clause-ok g c =
    let class = g.C.Classifier.class in
    AllZip-through _ _ _
    (λ j w o. elim w as (λ v. IfSome v (λ h. h.promise.0.value ≡ j)
    → MatchOption v (o ≡ NotStarted) (λ h. let job = h.promise.0.value in
    JobEnds (class job.class) job.table.cells job.commands.items o × IsBegun o)
    → JobEnds (class j.class) j.table.cells j.commands.items o) [
      | Some h ↦ λ r s. subst (λ job. JobEnds (class job.class) job.table.cells job.commands.items o) r s.0
      | None ↦ λ r s. subst (λ end. JobEnds (class j.class) j.table.cells j.commands.items end) (sym s) tt
    ])
    _ _ _ c.start_all-workers.ensures.each c.join_all.ensures
