use Rattle.std.proofs.Common.{◌+◌, ◌*◌, ◌-◌, ◌≤◌, [], length, take, drop}
use Rattle.tendril_decode.specs.Machines.{DecodesTo}
use Rattle.tendril_decode.proofs.characters.run_characters.Given as goal

abbrev pub invariant-loop-read : goal.invariant-loop-read
invariant-loop-read g l = record {
  from : l.from ≤ l.read;
  within : l.read ≤ length l.input;
  room : l.at ≤ l.start + 3 * (l.read - l.from);
  decodes : (s : g.row.S.Denot)
      → DecodesTo g.S.Characters.machine s l.input (take l.start l.fn.out) [] g.S.Characters.nothing
      (drop l.from l.input)
      → DecodesTo g.S.Characters.machine s l.input (take l.at l.out) [] g.S.Characters.nothing (drop l.read l.input);
}

abbrev pub decreases-loop-read : goal.decreases-loop-read
decreases-loop-read g l = length l.input - l.read
