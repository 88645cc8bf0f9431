use Rattle.std.proofs.Common.{refl, arith, rules}
use Rattle.tendril_block.proofs.Lists.{take-refill}
use Rattle.tendril_block.proofs.inline_bytes.InlineBytes.as_mut_slice.Goals as goal

pub returns : goal.returns
returns c =
    let inside = c.self.inside in (
      (refl, λ w. rw (← c.self.view_is) (take-refill inside.len inside.cells.bytes w (omega arith))),
      record { lends = tt; bytes = search rules },
    )
