use Rattle.std.proofs.Common.{◌+◌, ◌*◌, ◌-◌, ◌≤◌, ℕ, [], length, take, drop}
use Rattle.tendril_decode.specs.declared.utf16.Utf16.{Utf16}
use Rattle.tendril_decode.specs.Machines.{DecodesTo}
use Rattle.tendril_decode.specs.Utf16.{utf16}
use Rattle.tendril_decode.proofs.utf16.decode_units.Given as goal

abbrev pub invariant-loop-read : goal.invariant-loop-read
invariant-loop-read l = record {
  from : l.from ≤ l.read;
  within : l.read ≤ length l.input;
  room : l.at ≤ l.start + 3 * (l.read - l.from);
  decodes : (n : ℕ) (s : Utf16 n)
      → DecodesTo (utf16 l.big) s l.input (take l.start l.fn.out) [] (utf16 l.big).start (drop l.from l.input)
      → DecodesTo (utf16 l.big) s l.input (take l.at l.out) [] (utf16 l.big).start (drop l.read l.input);
}

abbrev pub decreases-loop-read : goal.decreases-loop-read
decreases-loop-read l = length l.input - l.read
