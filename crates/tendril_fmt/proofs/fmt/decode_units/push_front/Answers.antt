use Rattle.std.proofs.Common.{◌≡◌, ◌++◌, length, take, subst, ap, ◌∙◌, arith, refl}
use Rattle.std.specs.Simd.Lanes.{chunk}
use Rattle.std.proofs.lemmas.List.{take_all}
use Rattle.std.proofs.lemmas.Simd.{length-chunk}
use Rattle.tendril_fmt.proofs.UnitFronts.{IsFront, ascii_byte, front_ascii, front_threes, front_twos, pushes}
use Rattle.tendril_fmt.proofs.fmt.decode_units.push_front.Goals as goal

pub returns-then-is_ascii-clause-pushes : goal.returns-then-is_ascii-clause-pushes
returns-then-is_ascii-clause-pushes c =
    let bytes = c.args.bytes.now in
    let block = chunk 0 16 bytes in
    let can = c.requires.can in
    let low = c.is_ascii.ensures.0 c.if-is_ascii.true in
    let long : length block ≡ 16 = length-chunk 0 16 bytes (omega (arith, can.block)) in
    pushes _ _ bytes block 16 (omega arith) (omega (arith, can.block))
    (subst (IsFront bytes 16) (take_all 16 block (omega (arith, long)))
    (front_ascii bytes block 16 can.valid can.block (omega arith) (omega (arith, long))
    (λ k lt. ascii_byte block k low) (λ k lt. refl)))
    (c.push_all.ensures.items ∙ ap (λ l. c.args.units.now.items ++ l) c.units_of_ascii.ensures)

pub returns-then-count_threes-eq-THREES-clause-pushes : goal.returns-then-count_threes-eq-THREES-clause-pushes
returns-then-count_threes-eq-THREES-clause-pushes c =
    let bytes = c.args.bytes.now in
    let us = c.units_of_threes.result in
    let can = c.requires.can in
    let is : c.count_threes.result ≡ 5 = c.if-count_threes-eq-THREES.true in
    pushes _ _ bytes (take 5 us) 15 (omega arith) (omega (arith, can.block))
    (front_threes bytes us 5 can.valid can.block (omega arith) (omega arith)
    (λ k lt. c.count_threes.ensures.leads k (omega (arith, is))) (λ k lt. c.units_of_threes.ensures k lt))
    c.push_all-then-count_threes-eq-THREES.ensures.items

pub returns-then-count_twos-eq-TWOS-clause-pushes : goal.returns-then-count_twos-eq-TWOS-clause-pushes
returns-then-count_twos-eq-TWOS-clause-pushes c =
    let bytes = c.args.bytes.now in
    let us = c.units_of_twos.result in
    let can = c.requires.can in
    let is : c.count_twos.result ≡ 8 = c.if-count_twos-eq-TWOS.true in
    pushes _ _ bytes us 16 (omega arith) (omega (arith, can.block))
    (subst (IsFront bytes 16) (take_all 8 us (omega arith))
    (front_twos bytes us 8 can.valid can.block (omega arith) (omega arith)
    (λ k lt. c.count_twos.ensures.leads k (omega (arith, is))) (λ k lt. c.units_of_twos.ensures k lt)))
    c.push_all-then-count_twos-eq-TWOS.ensures.items
