use Rattle.std.proofs.Common.{sym, ◌∙◌, true≢false}
use Rattle.tendril_fmt.proofs.FourBytes.{utf8_slice_decides}
use Rattle.tendril_fmt.proofs.fmt.local.utf8_ends.Goals as goal

pub returns-then-begins_with_character-clause-slice : goal.returns-then-begins_with_character-clause-slice
returns-then-begins_with_character-clause-slice c = λ part whole v slice e f.
    let k = utf8_slice_decides part whole c.args.first.now c.args.last.now v slice e f in
    let begins = c.begins_with_character.ensures.0 c.if-begins_with_character.true in
    let ends = c.ends_with_character.ensures in
    (λ t. k.1 (begins, ends.0 t), λ h. ends.1 (k.0 h).1)

pub returns-else-begins_with_character-clause-slice : goal.returns-else-begins_with_character-clause-slice
returns-else-begins_with_character-clause-slice c = λ part whole v slice e f.
    let k = utf8_slice_decides part whole c.args.first.now c.args.last.now v slice e f in (
      λ t. absurd (true≢false (sym t ∙ c.if-begins_with_character.false)),
      λ h. c.begins_with_character.ensures.1
          (k.0 h).0,
    )
