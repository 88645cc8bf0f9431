use Rattle.tendril_fmt.proofs.Trims.{trimmed_is, trimmed_count, trimmed_valid}
use Rattle.tendril_fmt.proofs.cuts.pieces.trimmed_range.Goals as goal

pub returns-clause-count : goal.returns-clause-count
returns-clause-count g c =
    trimmed_count c.args.bytes.now c.trim_ascii_start-rest.result.now c.trim_ascii_end-kept.result.now
    c.trim_ascii_start-rest.ensures.value c.trim_ascii_end-kept.ensures.value

pub returns-clause-trim : goal.returns-clause-trim
returns-clause-trim g c =
    trimmed_is c.args.bytes.now c.trim_ascii_start-rest.result.now c.trim_ascii_end-kept.result.now
    c.trim_ascii_start-rest.ensures.value c.trim_ascii_end-kept.ensures.value

pub returns-clause-still_valid : goal.returns-clause-still_valid
returns-clause-still_valid g c =
    trimmed_valid _ g.met.F.CutsAtAscii.ascii_cut g.met.F.CutsAtAscii.after_ascii c.args.bytes.now
    c.trim_ascii_start-rest.result.now c.trim_ascii_end-kept.result.now c.trim_ascii_start-rest.ensures.value
    c.trim_ascii_end-kept.ensures.value c.requires.valid
