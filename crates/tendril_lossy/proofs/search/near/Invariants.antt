use Rattle.std.proofs.Common.{◌-◌, ◌≤◌, length, take, IsUtf8}
use Rattle.tendril_lossy.proofs.search.near.Given as goal

abbrev pub invariant-loop-at : goal.invariant-loop-at
invariant-loop-at l = record {
  text : IsUtf8 (take l.at l.fn.bytes);
  within : l.at ≤ length l.fn.bytes;
}

abbrev pub decreases-loop-at : goal.decreases-loop-at
decreases-loop-at l = length l.fn.bytes - l.at
