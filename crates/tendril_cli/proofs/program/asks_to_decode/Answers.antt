use Rattle.tendril_cli.proofs.WordLemmas.{one_decode}
use Rattle.tendril_cli.proofs.program.asks_to_decode.Goals as goal

pub returns-in-len1 : goal.returns-in-len1
returns-in-len1 c = one_decode (λ word. word.now) c.args.words.now _ c.eq.result c.in-len1.len_at_least
    c.in-len1.len_below c.eq.ensures
