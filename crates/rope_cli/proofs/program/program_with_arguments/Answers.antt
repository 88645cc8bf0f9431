use Rattle.std.proofs.Common.{subst, ⊎_elim}
use Rattle.tendril_script.specs.Endings.{RunEnded}
use Rattle.tendril_script.specs.Sessions.{RanFrom}
use Rattle.rope_cli.specs.RopeEndings.{rope_program_name}
use Rattle.rope_cli.specs.RopeSessions.{RopeAnswers}
use Rattle.rope_cli.proofs.program.program_with_arguments.Goals as goal

pub returns-clause-ran : goal.returns-clause-ran
returns-clause-ran g c = λ done.
    subst (λ cells. RanFrom RopeAnswers cells (g.R.Read.remaining c.args.input.now)
    (g.W.Write.contents c.args.out.now) (g.W.Write.contents c.run_program.new.out)) c.new-lines.ensures
    (⊎_elim (λ ran. ran) (λ served. absurd served) (c.run_program.ensures.ran done))

pub returns-clause-refused : goal.returns-clause-refused
returns-clause-refused g c = λ failed.
    subst (λ cells. RunEnded RopeAnswers rope_program_name cells (g.R.Read.remaining c.args.input.now)
    (g.W.Write.contents c.args.out.now) (g.W.Write.contents c.run_program.new.out)
    (g.E.Write.contents c.args.err.now) (g.E.Write.contents c.run_program.new.err)) c.new-lines.ensures
    (⊎_elim (λ ended. ended) (λ served. absurd served.stops) (c.run_program.ensures.refused failed))

pub returns-clause-reads_first : goal.returns-clause-reads_first
returns-clause-reads_first g c = c.run_program.ensures.reads_first (λ words none. none)
