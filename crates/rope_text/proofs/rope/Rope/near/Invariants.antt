use Rattle.std.proofs.Common.{◌≤◌, length, take}
use Rattle.rope_text.proofs.Passed.{AreLeft}
use Rattle.tendril_text.specs.TextLists.{bytes_of_all}
use Rattle.rope_text.proofs.rope.Rope.near.Given as goal

abbrev pub invariant-loop-count : goal.invariant-loop-count
invariant-loop-count g l = record {
  start : length (bytes_of_all (take l.low l.self.pieces)) ≤ l.at;
  left : AreLeft l.self.pieces l.low l.count l.at;
}

abbrev pub decreases-loop-count : goal.decreases-loop-count
decreases-loop-count g l = l.count
