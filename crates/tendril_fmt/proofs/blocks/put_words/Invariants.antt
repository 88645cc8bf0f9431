use Rattle.std.proofs.Common.{◌≡◌, ◌+◌, ◌*◌, ◌≤◌, ◌++◌, length, take, drop}
use Rattle.tendril_fmt.specs.Blocks.{fronts}
use Rattle.tendril_fmt.proofs.blocks.put_words.Given as goal

abbrev pub invariant-loop-len : goal.invariant-loop-len
invariant-loop-len l = record {
  left : length l.rest + 4 * l.len-index ≡ 4 * length l.lens;
  place : l.at ≤ l.start + 3 * l.len-index;
  written : take l.at l.bytes ++ fronts l.rest (drop l.len-index l.lens)
      ≡ take l.start l.fn.bytes ++ fronts l.words l.lens;
}
