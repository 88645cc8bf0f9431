use Rattle.std.proofs.Common.{sym, ◌∙◌, true≢false}
use Rattle.tendril_fmt.proofs.FourBytes.{wtf8_slice_decides}
use Rattle.tendril_fmt.proofs.fmt.local.wtf8_ends.Goals as goal

pub returns-then-begins_with_code_point-clause-slice : goal.returns-then-begins_with_code_point-clause-slice
returns-then-begins_with_code_point-clause-slice c = λ part whole v slice e f.
    let k = wtf8_slice_decides part whole c.args.first.now c.args.last.now v slice e f in
    let begins = c.begins_with_code_point.ensures.0 c.if-begins_with_code_point.true in
    let ends = c.ends_with_code_point.ensures in
    (λ t. k.1 (begins, ends.0 t), λ h. ends.1 (k.0 h).1)

pub returns-else-begins_with_code_point-clause-slice : goal.returns-else-begins_with_code_point-clause-slice
returns-else-begins_with_code_point-clause-slice c = λ part whole v slice e f.
    let k = wtf8_slice_decides part whole c.args.first.now c.args.last.now v slice e f in (
      λ t. absurd (true≢false (sym t ∙ c.if-begins_with_code_point.false)),
      λ h. c.begins_with_code_point.ensures.1
          (k.0 h).0,
    )
