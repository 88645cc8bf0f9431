use Rattle.std.proofs.Common.{◌≡◌, ◌*◌, ◌<◌, get_or, subst, arith}
use Rattle.tendril_fmt.specs.Units.{LeadsThree}
use Rattle.tendril_fmt.proofs.Lanes.{before_set, top_at_set}
use Rattle.tendril_fmt.proofs.UnitBlocks.{three_lanes, leads_three, three_clear}
use Rattle.tendril_fmt.proofs.fmt.unit_blocks.count_threes.Goals as goal

pub returns-clause-leads : goal.returns-clause-leads
returns-clause-leads c k lt =
    let block = c.args.block in
    let lanes = three_lanes block c.fits-block.0 in
    let found = before_set 8 c.first_set.result _ _ lanes (omega arith) c.first_set.ensures in
    leads_three k (get_or block (3 * k) 0) (get_or block 12 0) (omega (arith, c.min.ensures))
    (found.1 k (omega (arith, c.min.ensures)))

pub returns-clause-stops : goal.returns-clause-stops
returns-clause-stops c within =
    let block = c.args.block in
    let first = c.first_set.result in
    let is : first ≡ c.min.result = omega (arith, within, c.min.ensures) in
    let few : first < 5 = omega (arith, within, is) in
    let set =
    top_at_set 8 first _ _ (three_lanes block c.fits-block.0) (omega arith) c.first_set.ensures (omega (arith, few)) in
    subst (λ n. ¬ (LeadsThree (get_or block (3 * n) 0))) is
    (λ leads. let clear = three_clear first (get_or block (3 * first) 0) (get_or block 12 0) few leads in
    absurd (cc (set, clear)))
