use Rattle.std.proofs.Common.{◌≡◌, ◌≤◌, ◌++◌, length}
use Rattle.use_tokens.proofs.joined.joined.Given as goal

abbrev pub invariant-texts : goal.invariant-texts
invariant-texts l = record {
  same : l.text.bytes ++ l.input.bytes ≡ l.fn.begun.bytes ++ l.fn.input.bytes;
  within : length l.input.bytes ≤ length l.fn.input.bytes;
}

abbrev pub decreases-texts : goal.decreases-texts
decreases-texts l = length l.input.bytes
