use Rattle.std.proofs.Common.{◌≡◌, ◌++◌, take}
use Rattle.tendril_text.specs.TextLists.{bytes_of_all}
use Rattle.tendril_queue.proofs.lines.joined_line.Given as goal

abbrev pub invariant-loop-at : goal.invariant-loop-at
invariant-loop-at g l = l.line.bytes ≡ l.first.bytes ++ bytes_of_all (take l.at l.texts.items)
