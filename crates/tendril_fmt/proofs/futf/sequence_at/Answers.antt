use Rattle.std.proofs.Common.{◌+◌, ◌∙◌, slice_range, IfNone, arith, sym, subst, ap, ⊎_elim}
use Rattle.std.specs.Prelude.{Option}
use Rattle.tendril_fmt.specs.declared.futf.Codepoint.{Codepoint}
use Rattle.tendril_fmt.specs.Classify.{NoneStands}
use Rattle.tendril_fmt.proofs.Sequences.{sequence_of}
use Rattle.tendril_fmt.proofs.futf.sequence_at.Goals as goal

pub returns-then-len-rewind-clause-none : goal.returns-then-len-rewind-clause-none
returns-then-len-rewind-clause-none c = λ s n m h.
    let q = sequence_of _ _ _ c.requires.within.0 c.requires.start c.requires.rest s n m h in
    let to = q.0 in
    let len = c.sequence_len_of-len.ensures in
    let short = c.if-len-rewind.true in
    ⊎_elim (λ w. let e = w.0 in absurd (omega arith)) (λ w. let e = w.1 in absurd (omega arith)) q.2

pub returns-in_err-meaning-clause-none : goal.returns-in_err-meaning-clause-none
returns-in_err-meaning-clause-none c =
    let none : NoneStands c.args.buf.now c.args.idx = λ s n m h.
    let q = sequence_of _ _ _ c.requires.within.0 c.requires.start c.requires.rest s n m h in
    let fits = q.1 in
    let len = c.sequence_len_of-len.ensures in
    let wide = c.if-left-len.false in
    ⊎_elim
    (λ w. c.in_err-meaning.ensures w.1.0 w.1.1
    (ap (λ k. slice_range c.args.buf.now c.args.start (c.args.start + k)) (len ∙ w.0) ∙ w.1.2))
    (λ w. let e = w.0 in let k = w.1 in absurd (omega arith)) q.2
    in
    subst (λ (o : Option Codepoint). IfNone o (NoneStands c.args.buf.now c.args.idx)) (sym c.from_residual.ensures) none
