use Rattle.std.proofs.Common.{subst}
use Rattle.tendril_script.specs.Endings.{RunEnded}
use Rattle.tendril_script.specs.Sessions.{RanFrom}
use Rattle.tendril_cli.specs.Endings.{program_name}
use Rattle.tendril_cli.specs.Sessions.{Answers}
use Rattle.tendril_cli.proofs.WordLemmas.{runs_only}
use Rattle.tendril_cli.proofs.program.program.Goals as goal

pub returns-clause-ran : goal.returns-clause-ran
returns-clause-ran g c = λ run done.
    subst (λ cells. RanFrom Answers cells (g.R.Read.remaining c.args.input.now) (g.W.Write.contents c.args.out.now)
    (g.W.Write.contents c.run_words.new.out)) c.new.ensures
    (c.run_words.ensures.ran (λ decode. runs_only _ run decode) done)

pub returns-clause-refused : goal.returns-clause-refused
returns-clause-refused g c = λ run failed.
    subst (λ cells. RunEnded Answers program_name cells (g.R.Read.remaining c.args.input.now)
    (g.W.Write.contents c.args.out.now) (g.W.Write.contents c.run_words.new.out)
    (g.E.Write.contents c.args.err.now) (g.E.Write.contents c.run_words.new.err)) c.new.ensures
    (c.run_words.ensures.refused (λ decode. runs_only _ run decode) failed)
