use Rattle.std.proofs.Common.{take}
use Rattle.tendril_fmt.specs.Cuts.{LacksFeed}
use Rattle.tendril_text.specs.TextLists.{bytes_of_all}
use Rattle.tendril_queue.proofs.lines.find_feed.Given as goal

abbrev pub invariant-loop-index : goal.invariant-loop-index
invariant-loop-index g l = LacksFeed (bytes_of_all (take l.index l.texts.items))
