use Rattle.std.proofs.Common.{ap, ◌∙◌, subst, sym}
use Rattle.memchr.specs.Find.{IsFirstByte}
use Rattle.tendril_fmt.proofs.SetBytes.{has_member, is_table}
use Rattle.tendril_fmt.specs.Sets.{has_byte, IsTable}
use Rattle.tendril_fmt.proofs.cuts.byte_set.ByteSet.find_in.Goals as goal

pub returns-clause-first : goal.returns-clause-first
returns-clause-first c =
    subst (λ test. IsFirstByte test c.args.bytes.now c.find_member.result)
    (λ i x. (sym (has_member c.self.inside.members c.self.invariant x) ∙ ap (λ t. has_byte t x) c.self.view_is) i)
    c.find_member.ensures

pub returns-clause-table : goal.returns-clause-table
returns-clause-table c = subst IsTable c.self.view_is (is_table c.self.inside.members c.self.invariant)
