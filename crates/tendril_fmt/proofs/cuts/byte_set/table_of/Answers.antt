use Rattle.std.proofs.Common.{◌≤◌, length, refl, arith}
use Rattle.tendril_fmt.proofs.Searches.{none_yet, members_of}
use Rattle.tendril_fmt.proofs.cuts.byte_set.table_of.Goals as goal

pub loop-byte-init : goal.loop-byte-init
loop-byte-init c = (refl, none_yet c.args.bytes.now 256)

pub returns-clause-members : goal.returns-clause-members
returns-clause-members c =
    let all : length c.args.bytes.now ≤ c.loop-byte.byte-index =
    omega (arith, c.loop-byte-test.false, c.loop-byte.auto.byte-index-end) in
    members_of c.args.bytes.now c.loop-byte.members c.loop-byte.byte-index all c.loop-byte.invariant.1
