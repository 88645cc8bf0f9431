use Rattle.std.proofs.Common.{map, take}
use Rattle.tendril_script.specs.HeldBack.{PrintsLines}
use Rattle.tendril_script.proofs.script.run_lines.Given as goal

abbrev pub invariant-loop-line : goal.invariant-loop-line
invariant-loop-line g l =
    PrintsLines g.L.Lines.answers (g.L.Lines.state l.fn.runner) (map (λ line. line.now) (take l.line-index l.lines))
    (g.L.Lines.state l.runner) (g.W.Write.contents l.fn.out) (g.W.Write.contents l.out) l.fn.held.items l.held.items
