use Rattle.tendril_fmt.proofs.fmt.wtf8.WTF8Format.validate_subseq.Goals as goal

pub returns : goal.returns
returns c = λ whole v part. c.wtf8_ends.ensures.slice c.args.bytes.now whole v part c.first_four.ensures.four
    c.last_four.ensures.four
