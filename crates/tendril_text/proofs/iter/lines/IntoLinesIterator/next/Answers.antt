use Rattle.std.proofs.Common.{◌+◌}
use Rattle.tendril_fmt.proofs.Pieces.{line_of}
use Rattle.tendril_text.proofs.iter.lines.IntoLinesIterator.next.Goals as goal

pub returns-in-Ok-clause-steps : goal.returns-in-Ok-clause-steps
returns-in-Ok-clause-steps g c =
    let slice = c.as_byte_slice in
    let found = c.first_line-piece in
    let len = found.result.len in
    let taken = c.in-Ok.ensures.1 in
    let line =
    line_of slice.result.now c.args.self.now.rest.bytes c.in-Ok.line.bytes c.take_piece.new.self.bytes len
    (len + found.result.ending) slice.ensures.value found.ensures.line taken.piece_bytes taken.rest_bytes in
    ((c.if-self.false, c.if-self.false), line, taken.copied)
