use Rattle.std.proofs.Common.{subst}
use Rattle.tendril_script.specs.Endings.{RunEnded}
use Rattle.tendril_script.specs.Sessions.{RanFrom}
use Rattle.rope_cli.specs.RopeEndings.{rope_program_name}
use Rattle.rope_cli.specs.RopeSessions.{RopeAnswers}
use Rattle.rope_cli.proofs.program.program.Goals as goal

pub returns-clause-ran : goal.returns-clause-ran
returns-clause-ran g c = λ done.
    subst (λ cells. RanFrom RopeAnswers cells (g.R.Read.remaining c.args.input.now)
    (g.W.Write.contents c.args.out.now) (g.W.Write.contents c.run_words.new.out)) c.new.ensures
    (c.run_words.ensures.ran (λ none. none) done)

pub returns-clause-refused : goal.returns-clause-refused
returns-clause-refused g c = λ failed.
    subst (λ cells. RunEnded RopeAnswers rope_program_name cells (g.R.Read.remaining c.args.input.now)
    (g.W.Write.contents c.args.out.now) (g.W.Write.contents c.run_words.new.out)
    (g.E.Write.contents c.args.err.now) (g.E.Write.contents c.run_words.new.err)) c.new.ensures
    (c.run_words.ensures.refused (λ none. none) failed)
