use Rattle.std.proofs.Common.{refl}
use Rattle.tendril_fmt.proofs.Pieces.{split_of}
use Rattle.tendril_fmt.specs.Sets.{has_byte}
use Rattle.tendril_text.proofs.iter.split.IntoSplitIterator.next.Goals as goal

pub returns-in-Ok-clause-steps : goal.returns-in-Ok-clause-steps
returns-in-Ok-clause-steps g c =
    let slice = c.as_byte_slice in
    let piece = c.first_part-piece.result in
    let found = c.first_part-piece.ensures in
    let taken = c.in-Ok.ensures.1 in
    let part =
    split_of (has_byte c.args.self.now.set.now) slice.result.now c.args.self.now.rest.bytes c.in-Ok.part.bytes
    c.take_piece.new.self.bytes piece.len piece.ending slice.ensures.value found.ends found.ended found.last
    taken.piece_bytes taken.rest_bytes in
    ((c.if-self.false, part, taken.copied), refl)
