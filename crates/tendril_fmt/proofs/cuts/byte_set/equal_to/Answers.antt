use Rattle.std.proofs.Common.{◌≡◌, ℕ, cond, eqb, map, replicate, sym, subst, w8}
use Rattle.std.proofs.lemmas.Simd.{tops_compared}
use Rattle.std.specs.Simd.Lanes.{sel_l}
use Rattle.tendril_fmt.proofs.SetLanes.{select_equal}
use Rattle.tendril_fmt.proofs.cuts.byte_set.equal_to.Goals as goal

pub returns : goal.returns
returns c =
    let v = c.args.block in
    let b = c.args.byte in
    subst (λ ms. sel_l {A = ℕ} ms (replicate 16 255) (replicate 16 0) ≡ map (λ x. cond (eqb x b) 255 0) v)
    (sym (tops_compared w8 eqb v (replicate 16 b))) (select_equal v b 16 255 0 c.fits-block.0)
