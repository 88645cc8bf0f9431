use Rattle.tendril_fmt.proofs.fmt.utf8.UTF8Format.validate_subseq.Goals as goal

pub returns : goal.returns
returns c = λ whole v part. c.utf8_ends.ensures.slice c.args.bytes.now whole v part c.first_four.ensures.four
    c.last_four.ensures.four
