use Rattle.std.proofs.Common.{◌≤◌, IfSome, length}
use Rattle.recode_cli.proofs.offset.last_settled.Given as goal

abbrev pub invariant-loop-before : goal.invariant-loop-before
invariant-loop-before l = IfSome l.last (λ count. count ≤ length l.fn.piece)
