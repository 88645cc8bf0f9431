use Rattle.std.proofs.Common.{arith}
use Rattle.std.proofs.lemmas.Grind.{common_steps}
use Rattle.tendril_storage.proofs.storage.replace.try_append_in_block.Goals as goal

pub returns-in-Some-clause-bytes : goal.returns-in-Some-clause-bytes
returns-in-Some-clause-bytes g c =
    let h = rw c.in-Some.is at (c.alone_mut.follows.holds c.append_at.new.self) in grind (arith, common_steps, h.0)

pub returns-in-Some-clause-copied : goal.returns-in-Some-clause-copied
returns-in-Some-clause-copied g c =
    let h = rw c.in-Some.is at (c.alone_mut.follows.holds c.append_at.new.self) in grind (arith, common_steps, h.1)

pub returns-in-Some-clause-bytes_kept : goal.returns-in-Some-clause-bytes_kept
returns-in-Some-clause-bytes_kept g c =
    let h = rw c.in-Some.is at (c.alone_mut.follows.holds c.append_at.new.self) in grind (arith, common_steps, h.0)

pub returns-in-Some-clause-copied_kept : goal.returns-in-Some-clause-copied_kept
returns-in-Some-clause-copied_kept g c =
    let h = rw c.in-Some.is at (c.alone_mut.follows.holds c.append_at.new.self) in grind (arith, common_steps, h.1)
