use Rattle.std.proofs.Common.{◌≡◌, ℕ, ◌*◌, ◌<◌, ◌≤◌, false, get_or, arith}
use Rattle.std.specs.Simd.Lanes.{top}
use Rattle.tendril_fmt.proofs.Lanes.{div, other, before_set, top_at_set}
use Rattle.tendril_fmt.proofs.UnitBlocks.{two_lanes, leads_two, two_clear}
use Rattle.tendril_fmt.proofs.fmt.unit_blocks.count_twos.Goals as goal

found : (c : goal.After-first_set) → (c.first_set.result ≤ 8)
    × ((k : ℕ) → k < c.first_set.result → top 7 (other (div (get_or c.args.block (2 * k) 0) 32) 6) ≡ false)
found c =
    before_set 8 c.first_set.result _ _ (two_lanes c.args.block c.fits-block.0) (omega arith) c.first_set.ensures

pub returns-clause-few : goal.returns-clause-few
returns-clause-few c = (found c).0

pub returns-clause-leads : goal.returns-clause-leads
returns-clause-leads c k lt = leads_two (get_or c.args.block (2 * k) 0) ((found c).1 k lt)

pub returns-clause-stops : goal.returns-clause-stops
returns-clause-stops c within leads =
    let block = c.args.block in
    let first = c.first_set.result in
    let set = top_at_set 8 first _ _ (two_lanes block c.fits-block.0) (omega arith) c.first_set.ensures within in
    let clear = two_clear (get_or block (2 * first) 0) leads in
    absurd (cc (set, clear))
