use Rattle.std.proofs.Common.{rules}
use Rattle.tendril_lossy.proofs.Completions.{ends}
use Rattle.tendril_lossy.proofs.search.first_part_by.Goals as goal

pub returns-in-Some-clause-within : goal.returns-in-Some-clause-within
returns-in-Some-clause-within c =
    ends c.args.bytes.now _ c.in-Some.ending
    (record { front_is = search rules; text = c.from_utf8_unchecked-text.utf8; items = search rules })
