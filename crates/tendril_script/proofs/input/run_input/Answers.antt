use Rattle.std.proofs.lemmas.Result.{err_from_is_err_and}
use Rattle.tendril_script.proofs.EndingLemmas.{nothing_ran}
use Rattle.tendril_script.proofs.input.run_input.Goals as goal

pub returns-in_err-script-clause-stops : goal.returns-in_err-script-clause-stops
returns-in_err-script-clause-stops g c =
    let p = err_from_is_err_and c.from_residual.result c.from_residual.ensures.1 in
    rw (p.1, p.2)
    (nothing_ran g.L.Lines.answers (g.L.Lines.state c.args.runner.now) (g.R.Read.remaining c.args.input.now)
    (g.W.Write.contents c.args.out.now) _ c.in_err-script.ensures.refusal)
