use Rattle.std.proofs.Common.{rules, of_calls, subst, sym}
use Rattle.tendril_fmt.proofs.Runs.{ended, grown}
use Rattle.tendril_fmt.specs.Runs.{SaysOther}
use Rattle.tendril_fmt.proofs.cuts.runs.run_end.Goals as goal

pub returns-then-ne : goal.returns-then-ne
returns-then-ne g c =
    let ends = ended (goal.C-step g) g.R.PartialEq.eq g.F.Format.valid g.F.CharFormat.chars g.F.CharFormat.encodes
    g.F.CharFormat.encoding g.met.F.CharFormat.cut
    c.args.classify.now c.loop-character.classify c.classify.new.self c.classify-class.result c.args.bytes.now
    c.loop-character.end c.requires.valid c.loop-character.invariant.1
    (subst (λ cs. SaysOther (goal.C-step g) g.R.PartialEq.eq c.classify-class.result c.loop-character.classify cs
    c.classify.new.self) (sym c.in-Some.ensures.first.characters)
    (c.classify.result, c.classify.ensures, search rules)) in
    record { ends = ends; callable = search of_calls }

pub loop-character-preserved : goal.loop-character-preserved
loop-character-preserved g c = (
  search of_calls,
  grown (goal.C-step g) g.R.PartialEq.eq g.F.Format.valid g.F.CharFormat.chars g.F.CharFormat.encodes
      g.F.CharFormat.encoding
      c.args.classify.now c.loop-character.classify c.classify.new.self c.classify-class.result c.classify.result
      c.args.bytes.now c.loop-character.end c.in-Some.character c.in-Some.count c.loop-character.invariant.1
      c.in-Some.ensures.first c.classify.ensures (search rules),
)
