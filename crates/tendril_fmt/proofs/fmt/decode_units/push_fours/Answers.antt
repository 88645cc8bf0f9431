use Rattle.std.proofs.Common.{◌≡◌, ◌*◌, take, slice_index, subst, sym, arith}
use Rattle.std.specs.Simd.Lanes.{chunk}
use Rattle.std.proofs.lemmas.List.{take_all}
use Rattle.tendril_fmt.specs.Units.{LeadsFour}
use Rattle.tendril_fmt.proofs.UnitFronts.{IsFront, front_fours, pushes, block_byte}
use Rattle.tendril_fmt.proofs.fmt.decode_units.push_fours.Goals as goal

pub returns-then-are_fours-clause-pushes : goal.returns-then-are_fours-clause-pushes
returns-then-are_fours-clause-pushes c =
    let bytes = c.args.bytes.now in
    let us = c.units_of_fours.result in
    let is = c.units_of_fours.ensures in
    let all = take_all 8 us (omega arith) in
    pushes _ _ bytes us 16 (omega arith) (omega (arith, c.requires.can.block))
    (subst (IsFront bytes 16) all
    (front_fours bytes us 4 c.requires.can.valid c.requires.can.block (omega arith) (omega arith)
    (c.are_fours.ensures c.if-are_fours.true) is.leads is.trails))
    c.push_all.ensures.items

pub returns-clause-pushes : goal.returns-clause-pushes
returns-clause-pushes c =
    let bytes = c.args.bytes.now in
    let us = c.units_of_fours.result in
    let is = c.units_of_fours.ensures in
    pushes _ _ bytes (take 2 us) 4 (omega arith) (omega (arith, c.requires.can.block))
    (front_fours bytes us 1 c.requires.can.valid c.requires.can.block (omega arith) (omega arith)
    (λ k lt.
    let zero : 0 ≡ 4 * k = omega arith in
    let lead = subst LeadsFour (sym (block_byte bytes 0 (omega arith))) c.requires.first in
    subst (λ i. LeadsFour (slice_index (chunk 0 16 bytes) i)) zero lead)
    (λ k lt. is.leads k (omega arith)) (λ k lt. is.trails k (omega arith)))
    c.push_first.ensures.items
