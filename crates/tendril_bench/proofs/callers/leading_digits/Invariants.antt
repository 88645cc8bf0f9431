use Rattle.std.proofs.Common.{ℕ, ◌-◌, List, length}
use Rattle.std.specs.List.{AllByRecursion}
use Rattle.tendril.specs.Fmt.Chars.{IsSplitAfter}
use Rattle.tendril_bench.specs.Digits.{IsDigit}
use Rattle.tendril_bench.proofs.callers.leading_digits.Given as goal

-- the characters before `at` are digits
abbrev pub invariant-loop-character : goal.invariant-loop-character
invariant-loop-character g l = (cs : List ℕ)
    × IsSplitAfter g.F.Format.valid g.F.CharFormat.chars g.F.CharFormat.encoding l.text cs l.at
    × AllByRecursion IsDigit cs

abbrev pub decreases-loop-character : goal.decreases-loop-character
decreases-loop-character g l = length l.text - l.at
