use Rattle.tendril_errors.specs.Errors.{refusal_of}
use Rattle.tendril_stream.proofs.LineCuts.{split_stops}
use Rattle.tendril_stream.proofs.line_start.split_line.Goals as goal

pub returns-in-Err-clause-err : goal.returns-in-Err-clause-err
returns-in-Err-clause-err g c = split_stops c.args.rest.now.bytes c.args.count (refusal_of c.in-Err.field-0) c.requires
    c.in-Err.ensures.parts.0
