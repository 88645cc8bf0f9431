use Rattle.tendril_script.proofs.WordLemmas.{one_word}
use Rattle.tendril_script.proofs.arguments.asks_to_run.Goals as goal

pub returns-in-len1 : goal.returns-in-len1
returns-in-len1 c = one_word (λ word. word.now) c.args.words.now _ c.eq.result c.in-len1.len_at_least
    c.in-len1.len_below c.eq.ensures
