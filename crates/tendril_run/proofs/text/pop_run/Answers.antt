use Rattle.std.proofs.Common.{rules}
use Rattle.tendril_run.proofs.FirstRuns.{taken_run}
use Rattle.tendril_run.proofs.text.pop_run.Goals as goal

pub returns-clause-taken : goal.returns-clause-taken
returns-clause-taken g c =
    taken_run _ (g.C.Classifier.class c.args.classifier.now) _ (λ x r f k. search rules)
    g.F.Format.valid g.F.CharFormat.chars g.F.CharFormat.encoding g.met.F.CharFormat.empty_chars
    g.met.F.CharFormat.chars_spell
    (λ t. t.bytes) (λ t. t) c.args.text.now c.pop_front_char_run.new.self c.pop_front_char_run.result
    c.pop_front_char_run.ensures.run c.pop_front_char_run.ensures.none c.pop_front_char_run.ensures.refusal
    c.pop_front_char_run.ensures.err
