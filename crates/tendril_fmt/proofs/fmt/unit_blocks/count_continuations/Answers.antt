use Rattle.std.proofs.Common.{◌≡◌, not, get_or, ap, ◌∙◌, sym, arith}
use Rattle.std.specs.List.{prefix_len}
use Rattle.std.proofs.lemmas.Bool.{not-true, not-false}
use Rattle.std.proofs.lemmas.List.Sums.{prefix_len-le-length, prefix_len_passes, prefix_len_stops}
use Rattle.std.proofs.lemmas.Simd.{first_set_mask_l}
use Rattle.tendril_fmt.specs.Blocks.{first_set}
use Rattle.tendril_fmt.specs.Units.{continues}
use Rattle.tendril_fmt.proofs.UnitLanes.{back, back_lanes}
use Rattle.tendril_fmt.proofs.fmt.unit_blocks.count_continuations.Goals as goal

counted : (c : goal.After-first_set)
    → c.first_set.result ≡ prefix_len (λ b. not (not (continues b))) (back c.args.block)
counted c =
    c.first_set.ensures ∙ ap (first_set 8) c.mark_starts.ensures
    ∙ first_set_mask_l (λ b. not (continues b)) (back c.args.block) 8 (back_lanes c.args.block c.fits-block.0).long
    (omega arith)

pub returns-clause-few : goal.returns-clause-few
returns-clause-few c =
    let lanes = back_lanes c.args.block c.fits-block.0 in
    omega
    (arith, counted c, lanes.long, prefix_len-le-length (λ b. not (not (continues b))) (back c.args.block))

pub returns-clause-belong : goal.returns-clause-belong
returns-clause-belong c k lt =
    let lanes = back_lanes c.args.block c.fits-block.0 in
    let few = returns-clause-few c in
    let passes =
    prefix_len_passes (λ b. not (not (continues b))) (back c.args.block) k 0 (omega (arith, counted c)) in
    ap continues (sym (lanes.lanes k (omega (arith, few)))) ∙ not-false _ (not-true _ passes)

pub returns-clause-stops : goal.returns-clause-stops
returns-clause-stops c within =
    let lanes = back_lanes c.args.block c.fits-block.0 in
    let stops =
    prefix_len_stops (λ b. not (not (continues b))) (back c.args.block) 0 (omega (arith, counted c, lanes.long)) in
    let at = ap (λ k. get_or (back c.args.block) k 0) (counted c) in
    ap continues (sym (lanes.lanes c.first_set.result within) ∙ at) ∙ not-true _ (not-false _ stops)
