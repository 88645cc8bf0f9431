use Rattle.std.proofs.Common.{subst, arith}
use Rattle.std.specs.Prelude.{IsUtf8}
use Rattle.rope_text.proofs.Joined.{pieces_valid}
use Rattle.rope_run.proofs.one_rope.read.Goals as goal

pub returns : goal.returns
returns g c = (
  subst IsUtf8 c.pieces-pieces.ensures.bytes (pieces_valid _ c.pieces-pieces.ensures.each),
  omega
      (arith, c.len64-len.ensures),
)
