use Rattle.tendril_run.proofs.PoppedChars.{rest_kept}
use Rattle.tendril_run.proofs.text.pop_char.Goals as goal

pub returns-clause-kept : goal.returns-clause-kept
returns-clause-kept g c =
    rest_kept g.F.Format.valid g.F.CharFormat.chars g.F.CharFormat.encoding g.met.F.CharFormat.chars_spell
    g.met.F.CharFormat.cut
    (λ t. t.bytes) c.args.text.now c.pop_front_char.new.self c.pop_front_char.result
    c.pop_front_char.ensures.character c.pop_front_char.ensures.bytes c.pop_front_char.ensures.none
