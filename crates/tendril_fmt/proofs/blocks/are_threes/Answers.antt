use Rattle.std.proofs.Common.{replicate, get_or, sym, ap, arith, eqb-true}
use Rattle.tendril_fmt.specs.Blocks.{first_set}
use Rattle.tendril_fmt.proofs.Lanes.{other, lanes_own, lanes_splat, lanes_zip, lanes_list, before_set, same_is}
use Rattle.tendril_fmt.proofs.blocks.are_threes.Goals as goal

pub returns : goal.returns
returns c e =
    let lens = c.args.lens in
    let own = lanes_own 16 lens c.fits-lens.0 in
    let found = before_set 16 16 _ _ (lanes_zip 16 other lens (replicate 16 3) _ _ own (lanes_splat 16 3)) (omega arith)
    (sym (ap (first_set 16) (eqb-true _ _ e))) in
    lanes_list 16 lens _ (λ k. 3) own (λ k lt. same_is (get_or lens k 0) 3 (found.1 k lt))
