use Rattle.std.proofs.Common.{◌≡◌, ◌+◌, ◌-◌, ◌*◌, ◌≤◌, [], length, take, drop, true}
use Rattle.tendril_decode.specs.Machines.{DecodesTo}
use Rattle.tendril_decode.proofs.steps.decode_steps.Given as goal

abbrev pub invariant-loop-run : goal.invariant-loop-run
invariant-loop-run g l = record {
  fits : g.S.Steps.fits l.state ≡ true;
  within : l.read ≤ length l.input;
  room : l.at + g.S.Steps.weight l.state ≤ g.S.Steps.weight l.fn.state + 3 * l.read;
  decodes : DecodesTo g.S.Steps.machine l.fn.state l.input (take l.at l.out) [] l.state (drop l.read l.input);
}

-- A byte that is read may raise the weight, which is at most 4; a step that reads none lowers it.
abbrev pub decreases-loop-run : goal.decreases-loop-run
decreases-loop-run g l = 5 * (length l.input - l.read) + g.S.Steps.weight l.state
