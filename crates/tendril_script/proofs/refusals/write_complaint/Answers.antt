use Rattle.std.proofs.Common.{ap, ◌∙◌}
use Rattle.std.specs.Fmt.{decimal}
use Rattle.tendril_script.proofs.ComplaintLemmas.{first_front, second_front, last_front}
use Rattle.tendril_script.proofs.EndingLemmas.{any_front}
use Rattle.tendril_script.proofs.refusals.write_complaint.Goals as goal

pub returns : goal.returns
returns g c =
    let contents = g.E.Write.contents in
    last_front c.args.program.now c.format-number.result.now c.name-name.result.now c.args.refusal
    (c.format-number.ensures.text ∙ ap decimal c.number.ensures) c.name-name.ensures
    (contents c.args.err.now) (contents c.write_both.new.out) (contents c.write_both-2.new.out)
    (contents c.write_both-3.new.out) c.in_ok-write_both.ensures.ok c.in_ok-write_both-2.ensures.ok
    (any_front c.write_both-3.result _ _ _ c.write_both-3.ensures.ok c.write_both-3.ensures.err)

pub returns-in_err-write_both-2 : goal.returns-in_err-write_both-2
returns-in_err-write_both-2 g c =
    let contents = g.E.Write.contents in
    second_front c.args.program.now c.format-number.result.now c.name-name.result.now c.args.refusal
    (c.format-number.ensures.text ∙ ap decimal c.number.ensures) c.name-name.ensures
    (contents c.args.err.now) (contents c.write_both.new.out) (contents c.write_both-2.new.out)
    (contents c.write_both-2.new.out) c.in_ok-write_both.ensures.ok c.in_err-write_both-2.ensures.err

pub returns-in_err-write_both : goal.returns-in_err-write_both
returns-in_err-write_both g c =
    let contents = g.E.Write.contents in
    first_front c.args.program.now c.format-number.result.now c.name-name.result.now c.args.refusal
    (c.format-number.ensures.text ∙ ap decimal c.number.ensures) c.name-name.ensures
    (contents c.args.err.now) (contents c.write_both.new.out) (contents c.write_both.new.out)
    (contents c.write_both.new.out) c.in_err-write_both.ensures.err
