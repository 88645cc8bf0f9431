use Rattle.std.proofs.Common.{◌≡◌, length}
use Rattle.tendril_fmt.proofs.Searches.{IsTableOf}
use Rattle.tendril_fmt.proofs.cuts.byte_set.table_of.Given as goal

abbrev pub invariant-loop-byte : goal.invariant-loop-byte
invariant-loop-byte l = (length l.members ≡ 256) × IsTableOf l.bytes l.byte-index l.members
