use Rattle.std.proofs.Common.{◌≡◌, ℕ, ◌+◌, ◌*◌, ◌/◌, ◌%◌, List, [], ◌∷◌, replicate, get_or, sym, ap, arith, eqb-true}
use Rattle.std.specs.Simd.Lanes.{zip2}
use Rattle.tendril_fmt.specs.Blocks.{first_set}
use Rattle.tendril_fmt.proofs.Lanes.{IsLanes, other, div, lanes_own, lanes_splat, lanes_zip, lanes_map, lanes_divide}
use Rattle.tendril_fmt.proofs.Lanes.{before_set, same_is}
use Rattle.tendril_fmt.proofs.blocks.are_pairs.Goals as goal

pub nonzero_div-others : goal.nonzero_div-others
nonzero_div-others c = lanes_divide 16 4 c.args.high (omega arith)

abbrev lead_trail : List ℕ
lead_trail =
    0x36 ∷ 0x37 ∷ 0x36 ∷ 0x37 ∷ 0x36 ∷ 0x37 ∷ 0x36 ∷ 0x37 ∷ 0x36 ∷ 0x37 ∷ 0x36 ∷ 0x37 ∷ 0x36 ∷ 0x37 ∷ 0x36 ∷ 0x37 ∷ []

lead_trail_lanes : IsLanes 16 lead_trail (λ k. 0x36 + k % 2)
lead_trail_lanes = lanes_map 16 (λ k. 0x36 + k % 2)

pub returns : goal.returns
returns c e k lt =
    let high = c.args.high in
    let found = before_set 16 16 _ _
    (lanes_zip 16 other (zip2 div high (replicate 16 4)) lead_trail _ _
    (lanes_zip 16 div high (replicate 16 4) _ _ (lanes_own 16 high c.fits-high.0) (lanes_splat 16 4)) lead_trail_lanes)
    (omega arith) (sym (ap (first_set 16) (eqb-true _ _ e))) in
    let lead : get_or high (2 * k) 0 / 4 ≡ 0x36 + 2 * k % 2 =
    same_is _ _ (found.1 (2 * k) (omega (arith, lt, c.fits-high.0))) in
    let trail : get_or high (2 * k + 1) 0 / 4 ≡ 0x36 + (2 * k + 1) % 2 =
    same_is _ _ (found.1 (2 * k + 1) (omega (arith, lt, c.fits-high.0))) in
    (omega (arith, lead), omega (arith, lead), omega (arith, trail), omega (arith, trail))
