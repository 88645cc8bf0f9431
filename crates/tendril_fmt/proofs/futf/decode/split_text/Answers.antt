use Rattle.std.proofs.Common.{arith}
use Rattle.std.proofs.lemmas.Grind.{common_steps}
use Rattle.tendril_fmt.proofs.UnitSplits.{First-holds}
use Rattle.tendril_fmt.proofs.futf.decode.split_text.Goals as goal

pub returns-then-first-lt128 : goal.returns-then-first-lt128
returns-then-first-lt128 c =
    let f = First-holds c.args.bytes.now c.requires (grind (arith, common_steps, c.is_empty.ensures)) in
    (f.one c.if-first-lt128.true).splits

pub bounds-bytes-1 : goal.bounds-bytes-1
bounds-bytes-1 c =
    let f = First-holds c.args.bytes.now c.requires (grind (arith, common_steps, c.is_empty.ensures)) in
    omega (arith, f.second c.if-first-lt128.false)

pub slice_bounds-result-count-then-first-lt224 : goal.slice_bounds-result-count-then-first-lt224
slice_bounds-result-count-then-first-lt224 c =
    let f = First-holds c.args.bytes.now c.requires (grind (arith, common_steps, c.is_empty.ensures)) in
    f.second c.if-first-lt128.false

pub slice_bounds-result-start-then-first-lt224 : goal.slice_bounds-result-start-then-first-lt224
slice_bounds-result-start-then-first-lt224 c =
    let f = First-holds c.args.bytes.now c.requires (grind (arith, common_steps, c.is_empty.ensures)) in
    omega (arith, f.second c.if-first-lt128.false)

pub returns-then-first-lt224 : goal.returns-then-first-lt224
returns-then-first-lt224 c =
    let f = First-holds c.args.bytes.now c.requires (grind (arith, common_steps, c.is_empty.ensures)) in
    (f.two c.if-first-lt128.false c.if-first-lt224.true).splits

pub bounds-bytes-2 : goal.bounds-bytes-2
bounds-bytes-2 c =
    let f = First-holds c.args.bytes.now c.requires (grind (arith, common_steps, c.is_empty.ensures)) in
    omega (arith, f.third c.if-first-lt224.false)

pub slice_bounds-result-count-then-first-lt240 : goal.slice_bounds-result-count-then-first-lt240
slice_bounds-result-count-then-first-lt240 c =
    let f = First-holds c.args.bytes.now c.requires (grind (arith, common_steps, c.is_empty.ensures)) in
    f.third c.if-first-lt224.false

pub slice_bounds-result-start-then-first-lt240 : goal.slice_bounds-result-start-then-first-lt240
slice_bounds-result-start-then-first-lt240 c =
    let f = First-holds c.args.bytes.now c.requires (grind (arith, common_steps, c.is_empty.ensures)) in
    omega (arith, f.third c.if-first-lt224.false)

pub returns-then-first-lt240 : goal.returns-then-first-lt240
returns-then-first-lt240 c =
    let f = First-holds c.args.bytes.now c.requires (grind (arith, common_steps, c.is_empty.ensures)) in
    (f.three c.if-first-lt224.false c.if-first-lt240.true).splits

pub bounds-bytes-3 : goal.bounds-bytes-3
bounds-bytes-3 c =
    let f = First-holds c.args.bytes.now c.requires (grind (arith, common_steps, c.is_empty.ensures)) in
    omega (arith, f.fourth c.if-first-lt240.false)

pub slice_bounds-result-count-2 : goal.slice_bounds-result-count-2
slice_bounds-result-count-2 c =
    let f = First-holds c.args.bytes.now c.requires (grind (arith, common_steps, c.is_empty.ensures)) in
    f.fourth c.if-first-lt240.false

pub slice_bounds-result-start-2 : goal.slice_bounds-result-start-2
slice_bounds-result-start-2 c =
    let f = First-holds c.args.bytes.now c.requires (grind (arith, common_steps, c.is_empty.ensures)) in
    omega (arith, f.fourth c.if-first-lt240.false)

pub returns : goal.returns
returns c =
    let f = First-holds c.args.bytes.now c.requires (grind (arith, common_steps, c.is_empty.ensures)) in
    (f.four c.if-first-lt240.false).splits
