use Rattle.tendril_bench.proofs.Doubles.{IsFirstChar-doubled}
use Rattle.tendril_bench.proofs.doubled.DoubledCharFormat.first_char.Goals as goal

pub returns-clause-first : goal.returns-clause-first
returns-clause-first c = IsFirstChar-doubled c.args.bytes.now c.in_ok-first.field-0.now c.requires
    c.in_ok-first.ensures.value
