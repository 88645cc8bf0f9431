use Rattle.std.proofs.Common.{◌≡◌, [], take, drop, sym, subst, ◌∙◌}
use Rattle.tendril_decode.specs.Machines.{DecodesTo, broken_marks}
use Rattle.tendril_decode.specs.Gb18030.{gb18030}
use Rattle.tendril_decode.specs.declared.gb18030.Gb18030.{Gb18030}
use Rattle.tendril_decode.proofs.Gb18030Pairs.{complete_start}
use Rattle.tendril_decode.proofs.gb18030.Gb18030Steps.run.Goals as goal

pub returns-then-is_complete-clause-decodes : goal.returns-then-is_complete-clause-decodes
returns-then-is_complete-clause-decodes c =
    let input = c.args.input.now in
    let run = c.run_characters in
    let here : c.args.self.now ≡ gb18030.start =
    complete_start c.args.self.now (sym c.if-is_complete.true ∙ c.is_complete.ensures) in
    subst (λ (t : Gb18030). (s : Gb18030)
    → DecodesTo gb18030 s input (take c.args.start c.args.out.now) [] t (drop c.args.from input)
    → DecodesTo gb18030 s input (take run.result.written run.new.out) (broken_marks run.result.broken) t
    (drop run.result.read input)) (sym here) run.ensures.decodes
