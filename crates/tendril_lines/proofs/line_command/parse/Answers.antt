use Rattle.std.proofs.Common.{◌≡◌, map}
use Rattle.tendril_lines.specs.Words.{words}
use Rattle.tendril_lines.proofs.line_command.parse.Goals as goal

pub returns-clause-found : goal.returns-clause-found
returns-clause-found g c =
    let same : map (λ word. word.now) c.as_slice.result.now ≡ words c.args.line.now =
    rw c.as_slice.ensures.value c.in_ok-words.ensures in
    rw (← same) c.in_ok-read_words.ensures
