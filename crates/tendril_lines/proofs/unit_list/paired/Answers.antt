use Rattle.std.proofs.Common.{◌≡◌, ◌∙◌, ◌<◌, length, get_or, Some, ap, arith}
use Rattle.std.proofs.lemmas.Grind.{common_steps}
use Rattle.tendril_lines.proofs.Pairs.{pair_taken, all_paired, left_over}
use Rattle.tendril_lines.proofs.unit_list.paired.Goals as goal

pub loop-rest-preserved : goal.loop-rest-preserved
loop-rest-preserved c =
    let small : get_or c.loop-rest.rest.now 1 0 < 0x100 = omega arith in
    let e = pair_taken c.loop-rest.units.items c.loop-rest.rest.now c.in-len2-up.len_at_least small in
    let k = c.in_ok-extend_from_slice.ensures.items in
    let h = c.loop-rest.invariant in
    cc

pub returns-then-is_empty : goal.returns-then-is_empty
returns-then-is_empty c us =
    let none : length c.loop-rest.rest.now ≡ 0 = grind (arith, common_steps, c.is_empty.ensures) in
    let k = all_paired c.args.bytes.now c.loop-rest.units.items c.loop-rest.rest.now c.loop-rest.invariant none us in
    (λ e. k.0 (cc), λ h. ap Some (c.new.ensures ∙ k.1 h))

pub returns-else-is_empty : goal.returns-else-is_empty
returns-else-is_empty c us =
    let one : length c.loop-rest.rest.now ≡ 1 = grind (arith, common_steps, c.is_empty.ensures) in (
      λ e. cc,
      λ h. absurd (left_over c.args.bytes.now c.loop-rest.units.items c.loop-rest.rest.now
          c.loop-rest.invariant one us h),
    )
