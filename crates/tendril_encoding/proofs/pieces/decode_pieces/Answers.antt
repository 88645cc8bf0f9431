use Rattle.std.proofs.Common.{sym}
use Rattle.tendril_encoding.proofs.pieces.decode_pieces.Goals as goal

pub returns-clause-refusal : goal.returns-clause-refusal
returns-clause-refusal g c = rw (sym c.new_encoding.ensures.kept) c.decode_all.ensures.refusal
