use Rattle.std.proofs.Common.{◌∙◌, ap, arith, eqb-true, get_or, leb, leb-false, replicate, sym}
use Rattle.tendril_fmt.specs.Blocks.{first_set}
use Rattle.tendril_fmt.proofs.Lanes.{at_most, before_set, lanes_splat, lanes_zip, top_mask}
use Rattle.tendril_fmt.proofs.UnitLanes.{front, front_lanes}
use Rattle.tendril_fmt.proofs.fmt.unit_blocks.lacks_four.Goals as goal

pub returns : goal.returns
returns c none k lt =
    let block = c.args.block in
    let lanes =
    lanes_zip 8 at_most (replicate 8 240) (front block) _ _ (lanes_splat 8 240) (front_lanes block c.fits-block.0) in
    let clear =
    (before_set 8 8 _ _ lanes (omega arith) (ap (first_set 8) (sym (eqb-true _ _ none)))).1 k lt in
    leb-false _ _ (sym (top_mask (leb 240 (get_or block k 0))) ∙ clear)
