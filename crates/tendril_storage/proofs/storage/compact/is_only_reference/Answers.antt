use Rattle.std.proofs.Common.{arith}
use Rattle.std.proofs.lemmas.Grind.{common_steps}
use Rattle.tendril_storage.proofs.storage.compact.is_only_reference.Goals as goal

pub returns-in-Some-clause-bytes : goal.returns-in-Some-clause-bytes
returns-in-Some-clause-bytes g c =
    let h = rw c.in-Some.is at (c.alone_mut.follows.holds c.in-Some.field-0.now) in grind (arith, common_steps, h.0)

pub returns-in-Some-clause-copied : goal.returns-in-Some-clause-copied
returns-in-Some-clause-copied g c =
    let h = rw c.in-Some.is at (c.alone_mut.follows.holds c.in-Some.field-0.now) in grind (arith, common_steps, h.1)
