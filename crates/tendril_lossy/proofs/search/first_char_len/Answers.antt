use Rattle.std.proofs.Common.{sym, ◌∙◌, arith}
use Rattle.tendril_lossy.proofs.Near.{whole_1, whole_2, whole_3, whole_4, none_1, none_2, none_3, error_1, error_2}
use Rattle.tendril_lossy.proofs.Near.{error_3}
use Rattle.tendril_lossy.proofs.search.first_char_len.Goals as goal

pub returns-then-first-lt128-clause-text : goal.returns-then-first-lt128-clause-text
returns-then-first-lt128-clause-text c = whole_1 c.args.bytes.now (omega arith) c.if-first-lt128.true

pub returns-then-not-begin_char-clause-none : goal.returns-then-not-begin_char-clause-none
returns-then-not-begin_char-clause-none c = none_1 c.args.bytes.now c.if-first-lt128.false (sym c.begin_char.ensures
    ∙ c.if-not-begin_char.true)

pub returns-then-not-begin_char-clause-fault : goal.returns-then-not-begin_char-clause-fault
returns-then-not-begin_char-clause-fault c =
    error_1 c.args.bytes.now c.requires (sym c.begin_char.ensures ∙ c.if-not-begin_char.true)

pub returns-then-first-lt224-clause-text : goal.returns-then-first-lt224-clause-text
returns-then-first-lt224-clause-text c =
    whole_2 c.args.bytes.now (omega arith) (sym c.begin_char.ensures ∙ c.if-not-begin_char.false) c.if-first-lt224.true

pub returns-then-not-goes_on-clause-none : goal.returns-then-not-goes_on-clause-none
returns-then-not-goes_on-clause-none c = none_2 c.args.bytes.now c.if-first-lt224.false (sym c.goes_on.ensures
    ∙ c.if-not-goes_on.true)

pub returns-then-not-goes_on-clause-fault : goal.returns-then-not-goes_on-clause-fault
returns-then-not-goes_on-clause-fault c =
    error_2 c.args.bytes.now c.requires (sym c.begin_char.ensures ∙ c.if-not-begin_char.false) (sym c.goes_on.ensures
    ∙ c.if-not-goes_on.true)

pub returns-then-first-lt240-clause-text : goal.returns-then-first-lt240-clause-text
returns-then-first-lt240-clause-text c =
    whole_3 c.args.bytes.now (omega arith) (sym c.begin_char.ensures ∙ c.if-not-begin_char.false)
    c.if-first-lt224.false (sym c.goes_on.ensures ∙ c.if-not-goes_on.false) c.if-first-lt240.true

pub returns-then-not-goes_on-2-clause-none : goal.returns-then-not-goes_on-2-clause-none
returns-then-not-goes_on-2-clause-none c = none_3 c.args.bytes.now c.if-first-lt240.false (sym c.goes_on-2.ensures
    ∙ c.if-not-goes_on-2.true)

pub returns-then-not-goes_on-2-clause-fault : goal.returns-then-not-goes_on-2-clause-fault
returns-then-not-goes_on-2-clause-fault c =
    error_3 c.args.bytes.now c.requires (sym c.begin_char.ensures ∙ c.if-not-begin_char.false) (sym c.goes_on.ensures
    ∙ c.if-not-goes_on.false)

pub returns-clause-text : goal.returns-clause-text
returns-clause-text c = whole_4 c.args.bytes.now c.requires (sym c.begin_char.ensures ∙ c.if-not-begin_char.false)
    (sym c.goes_on.ensures ∙ c.if-not-goes_on.false) c.if-first-lt240.false (sym c.goes_on-2.ensures
    ∙ c.if-not-goes_on-2.false)
