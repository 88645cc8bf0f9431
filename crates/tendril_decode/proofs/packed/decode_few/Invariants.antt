use Rattle.std.proofs.Common.{◌+◌, ◌*◌, ◌≤◌, [], take, drop}
use Rattle.tendril_decode.specs.Single.{DecodesIn}
use Rattle.tendril_decode.proofs.packed.decode_few.Given as goal

abbrev pub invariant-loop-i : goal.invariant-loop-i
invariant-loop-i l = record {
  room : l.at ≤ l.start + 3 * l.i;
  decodes : DecodesIn l.fn.encoding l.input (take l.start l.fn.out) [] (drop l.from l.input)
      → DecodesIn l.fn.encoding l.input (take l.at l.out) [] (drop (l.from + l.i) l.input);
}
