use Rattle.std.proofs.Common.{◌-◌, length}
use Rattle.tendril_fmt.proofs.Runs.{SoFar}
use Rattle.tendril_fmt.proofs.cuts.runs.run_end.Given as goal

abbrev pub invariant-loop-character : goal.invariant-loop-character
invariant-loop-character g l =
    goal.C-IsAlwaysCallable g l.classify
    × SoFar (goal.C-step g) g.R.PartialEq.eq g.F.Format.valid g.F.CharFormat.chars g.F.CharFormat.encodes
    g.F.CharFormat.encoding l.fn.classify l.class l.fn.bytes l.end l.classify

abbrev pub decreases-loop-character : goal.decreases-loop-character
decreases-loop-character g l = length l.fn.bytes - l.end
