use Rattle.std.proofs.Common.{◌+◌, ◌-◌, ◌*◌, ◌≤◌, [], take, drop}
use Rattle.tendril_decode.specs.Single.{DecodesIn}
use Rattle.tendril_decode.proofs.packed.decode_fronts.Given as goal

abbrev pub invariant-loop-i : goal.invariant-loop-i
invariant-loop-i l = record {
  within : l.read ≤ l.from + 16 * l._i;
  more : l._i ≤ l.read - l.from;
  from : l.from ≤ l.read;
  written : l.at ≤ l.start + 3 * (l.read - l.from);
  decodes : DecodesIn l.fn.encoding l.input (take l.start l.fn.out) [] (drop l.from l.input)
      → DecodesIn l.fn.encoding l.input (take l.at l.out) [] (drop l.read l.input);
}
