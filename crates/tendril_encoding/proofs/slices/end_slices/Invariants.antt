use Rattle.std.proofs.Common.{◌≡◌, ◌++◌, true, List, length}
use Rattle.tendril_encoding.specs.Sends.{FeedsNew}
use Rattle.tendril_lossy.specs.Lossy.{Told}
use Rattle.tendril_encoding.proofs.slices.end_slices.Given as goal

abbrev pub invariant-loop : goal.invariant-loop
invariant-loop g l = record {
  fits : g.M.Decode.fits l.state ≡ true;
  done : (sent : List Told) × FeedsNew g.S.TendrilSink.takes l.fn.sink sent l.sink
      × (g.M.Decode.machine.ends l.fn.state ≡ sent ++ g.M.Decode.machine.ends l.state);
}

-- each malformed sequence is one less to tell
abbrev pub decreases-loop : goal.decreases-loop
decreases-loop g l = length (g.M.Decode.machine.ends l.state)
