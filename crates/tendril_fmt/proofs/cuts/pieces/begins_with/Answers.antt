use Rattle.std.proofs.Common.{length, drop}
use Rattle.std.proofs.lemmas.Bool.Decides.{Decides-eqb}
use Rattle.std.proofs.lemmas.Slice.Eq.{starts_is}
use Rattle.tendril_fmt.proofs.Searches.{IsUtf8-rest}
use Rattle.tendril_fmt.proofs.cuts.pieces.begins_with.Goals as goal

pub returns-clause-begins : goal.returns-clause-begins
returns-clause-begins c =
    let starts = starts_is Decides-eqb c.args.bytes.now c.args.prefix.now c.starts_with.result
    (rw c.as_bytes.ensures.value at c.starts_with.ensures.value) in (
      λ is. (drop (length c.args.prefix.now) c.args.bytes.now, starts.0 is),
      λ front. starts.1 front.0 front.1,
    )

pub returns-clause-bytes : goal.returns-clause-bytes
returns-clause-bytes c = (starts_is Decides-eqb c.args.bytes.now c.args.prefix.now c.starts_with.result
    (rw c.as_bytes.ensures.value at c.starts_with.ensures.value)).0

pub returns-clause-valid : goal.returns-clause-valid
returns-clause-valid c = λ is. IsUtf8-rest c.args.bytes.now c.args.prefix.now c.requires c.utf8.prefix
    ((starts_is Decides-eqb c.args.bytes.now c.args.prefix.now c.starts_with.result
    (rw c.as_bytes.ensures.value at c.starts_with.ensures.value)).0 is)
