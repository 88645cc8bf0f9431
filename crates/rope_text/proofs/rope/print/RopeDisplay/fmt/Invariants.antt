use Rattle.std.proofs.Common.{take}
use Rattle.std.specs.Fmt.{HasWritten, HasWrittenStyled, IsFlush, IsPlainFormatter}
use Rattle.tendril_text.specs.TextLists.{bytes_of_all}
use Rattle.rope_text.proofs.rope.print.RopeDisplay.fmt.Given as goal

abbrev pub invariant-loop-index : goal.invariant-loop-index
invariant-loop-index g l = record {
  plain : IsPlainFormatter l.initial.f
      → HasWritten g.W.Write.write_str_gives l.initial.f (bytes_of_all (take l.index l.self.pieces)) l.f;
  styled : IsFlush l.initial.f → HasWrittenStyled g.W.Write.write_str_gives l.initial.f
      (bytes_of_all (take l.index l.self.pieces)) l.f;
}
