use Rattle.std.proofs.Common.{◌-◌, ◌≤◌, length, take, IsUtf8}
use Rattle.tendril_lossy.proofs.search.by_windows.Given as goal

abbrev pub invariant-loop-window : goal.invariant-loop-window
invariant-loop-window l = record {
  text : IsUtf8 (take l.at l.fn.bytes);
  within : l.at ≤ length l.fn.bytes;
  some : 4 ≤ l.window;
}

abbrev pub decreases-loop-window : goal.decreases-loop-window
decreases-loop-window l = length l.fn.bytes - l.at - l.window
