use Rattle.std.proofs.Common.{◌≡◌, ℕ, ◌<◌, length, get_or}
use Rattle.std.specs.Char.{to_ascii_lowercase}
use Rattle.tendril_labels.proofs.label.is_label.Given as goal

abbrev pub invariant-loop-byte : goal.invariant-loop-byte
invariant-loop-byte l =
    (k : ℕ) → k < length l.yielded → to_ascii_lowercase (get_or l.bytes k 0) ≡ get_or l.label k 0
