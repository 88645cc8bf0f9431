use Rattle.std.proofs.Common.{◌+◌, ◌-◌, ◌*◌, ◌≤◌, [], length, take, drop}
use Rattle.tendril_decode.specs.Single.{DecodesIn}
use Rattle.tendril_decode.proofs.packed.decode_packed.Given as goal

abbrev pub invariant-loop-read : goal.invariant-loop-read
invariant-loop-read l = record {
  within : l.read ≤ length l.input;
  room : l.at + 3 * (length l.input - l.read) + 1 ≤ length l.out;
  decodes : DecodesIn l.fn.encoding l.input (take l.at l.out) [] (drop l.read l.input);
}

abbrev pub decreases-loop-read : goal.decreases-loop-read
decreases-loop-read l = length l.input - l.read
