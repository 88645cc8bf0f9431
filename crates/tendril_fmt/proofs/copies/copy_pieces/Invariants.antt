use Rattle.std.proofs.Common.{◌≡◌, ◌++◌, length}
use Rattle.tendril_fmt.proofs.copies.copy_pieces.Given as goal

abbrev pub invariant-loop-rest : goal.invariant-loop-rest
invariant-loop-rest g l = record {
  all : l.copy.items ++ l.rest ≡ l.bytes;
  valid : g.F.Format.valid l.copy.items;
}

abbrev pub decreases-loop-rest : goal.decreases-loop-rest
decreases-loop-rest g l = length l.rest
