use Rattle.std.proofs.Common.{◌≡◌, ◌<◌, ◌++◌, ◌∷◌, [], length, arith}
use Rattle.std.proofs.lemmas.Bool.Decides.{nat_tests}
use Rattle.std.specs.Prelude.{string_bytes}
use Rattle.tendril_script.proofs.SessionLemmas.{line_written}
use Rattle.tendril_script.proofs.script.run_line.Goals as goal

pub returns-clause-ok : goal.returns-clause-ok
returns-clause-ok g c =
    let some : 0 < length c.args.line.now = grind (arith, nat_tests) in
    let held : c.append_line.new.held.items ≡ c.args.held.now.items ++ (string_bytes c.in_ok-text.text ++ 10 ∷ []) =
    rw (← c.as_bytes.ensures.value) c.in_ok-append_line.ensures.ok in
    line_written g.L.Lines.answers (g.L.Lines.state c.args.runner.now) (g.L.Lines.state c.answer.new.self)
    c.args.line.now (string_bytes c.in_ok-text.text) c.args.held.now.items c.append_line.new.held.items some
    c.in_ok-text.ensures.ok held
