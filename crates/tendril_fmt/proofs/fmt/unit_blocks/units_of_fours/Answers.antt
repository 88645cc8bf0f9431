use Rattle.std.proofs.Common.{get_or, ap, ◌∙◌, ◌+◌, ◌*◌}
use Rattle.tendril_fmt.proofs.UnitBlocks.{lead_lane, trail_lane, lead_is, trail_is}
use Rattle.tendril_fmt.proofs.fmt.unit_blocks.units_of_fours.Goals as goal

pub returns-clause-leads : goal.returns-clause-leads
returns-clause-leads c k lt =
    let block = c.args.block in
    ap (λ u. u + 0x40) (lead_lane block c.fits-block.0 k lt)
    ∙ lead_is (get_or block (4 * k) 0) (get_or block (4 * k + 1) 0) (get_or block (4 * k + 2) 0)
    (get_or block (4 * k + 3) 0)

pub returns-clause-trails : goal.returns-clause-trails
returns-clause-trails c k lt =
    let block = c.args.block in
    trail_lane block c.fits-block.0 k lt
    ∙ trail_is (get_or block (4 * k) 0) (get_or block (4 * k + 1) 0) (get_or block (4 * k + 2) 0)
    (get_or block (4 * k + 3) 0)
