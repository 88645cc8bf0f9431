use Rattle.std.proofs.lemmas.Result.{err_from_is_err_and}
use Rattle.tendril_stream.proofs.LineCuts.{join_stops, line_joined}
use Rattle.std.proofs.Common.{◌∙◌, ap}
use Rattle.tendril_text.specs.Texts.{Text}
use Rattle.tendril_stream.proofs.line_start.join_line.Goals as goal

pub returns-in_err-push_bytes_without_validating-clause-err :
    goal.returns-in_err-push_bytes_without_validating-clause-err
returns-in_err-push_bytes_without_validating-clause-err g c =
    let p = err_from_is_err_and c.from_residual.result c.from_residual.ensures.1 in
    rw (p.1, p.2) (join_stops c.args.kept.now.bytes c.args.rest.now.bytes c.as_byte_slice.result.now c.args.count _
    c.as_byte_slice.ensures.value c.requires.line c.requires.lacks c.requires.some
    c.in_err-push_bytes_without_validating.ensures.outcome.0)

pub returns-clause-ok : goal.returns-clause-ok
returns-clause-ok g c = line_joined c.args.kept.now c.args.rest.now c.take.result c.pop_front.new.self
    c.as_byte_slice.result.now c.args.count c.as_byte_slice.ensures.value c.requires.line c.requires.lacks
    c.requires.some c.requires.valid
    (ap (λ (t : Text). t.bytes) c.take.ensures.text ∙ c.in_ok-push_bytes_without_validating.ensures.outcome.1)
    c.pop_front.ensures.bytes c.pop_front.ensures.copied
