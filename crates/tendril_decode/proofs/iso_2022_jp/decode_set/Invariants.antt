use Rattle.std.proofs.Common.{◌+◌, ◌*◌, ◌-◌, ◌≤◌, [], length, take, drop}
use Rattle.tendril_decode.specs.Iso2022Jp.{iso_2022_jp, resting}
use Rattle.tendril_decode.specs.Machines.{DecodesTo}
use Rattle.tendril_decode.specs.declared.iso_2022_jp.Iso2022Jp.{Iso2022Jp}
use Rattle.tendril_decode.proofs.iso_2022_jp.decode_set.Given as goal

abbrev pub invariant-loop-read : goal.invariant-loop-read
invariant-loop-read l = record {
  from : l.from ≤ l.read;
  within : l.read ≤ length l.input;
  room : l.at ≤ l.start + 3 * (l.read - l.from);
  decodes : (s : Iso2022Jp)
      → DecodesTo iso_2022_jp s l.input (take l.start l.fn.out) [] (resting l.set) (drop l.from l.input)
      → DecodesTo iso_2022_jp s l.input (take l.at l.out) [] (resting l.set) (drop l.read l.input);
}

abbrev pub decreases-loop-read : goal.decreases-loop-read
decreases-loop-read l = length l.input - l.read
