use Rattle.std.proofs.Common.{◌≡◌, ◌+◌, ◌-◌, ◌*◌, ◌≤◌, ◌++◌, true, List, length, drop}
use Rattle.tendril_decode.specs.Machines.{told_from, state_after}
use Rattle.tendril_encoding.specs.Sends.{FeedsNew}
use Rattle.tendril_lossy.specs.Lossy.{Told}
use Rattle.tendril_encoding.proofs.slices.feed.Given as goal

abbrev pub invariant-loop-at : goal.invariant-loop-at
invariant-loop-at g l = record {
  fits : g.M.Decode.fits l.state ≡ true;
  within : l.at ≤ length l.input;
  done : (sent : List Told) × FeedsNew g.S.TendrilSink.takes l.fn.sink sent l.sink
      × (told_from g.M.Decode.machine l.fn.state l.input ≡ sent ++ told_from g.M.Decode.machine l.state
      (drop l.at l.input));
  state : state_after g.M.Decode.machine l.fn.state l.input
      ≡ state_after g.M.Decode.machine l.state (drop l.at l.input);
}

abbrev pub decreases-loop-at : goal.decreases-loop-at
decreases-loop-at g l = 5 * (length l.input - l.at) + g.M.Decode.weight l.state
