use Rattle.std.proofs.Common.{◌≡◌, ◌<◌, ℕ, false, get_or}
use Rattle.tendril_fmt.specs.Sets.{is_byte4}
use Rattle.tendril_fmt.proofs.cuts.byte_set.has_any.Given as goal

abbrev pub invariant-loop-byte : goal.invariant-loop-byte
invariant-loop-byte l = l.any ≡ false → (k : ℕ) → k < l.byte-index → is_byte4 l.a l.b l.c l.d (get_or l.bytes k 0)
    ≡ false
