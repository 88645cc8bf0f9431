use Rattle.std.proofs.Common.{◌≡◌, ℕ, ◌<◌, ◌≤◌, true, false, leb, get_or, replicate, sym, ◌∙◌, arith}
use Rattle.std.specs.Simd.Lanes.{zip2, top}
use Rattle.std.proofs.lemmas.Bool.Decides.{nat_tests}
use Rattle.tendril_fmt.proofs.Lanes.{IsLanes, at_most, lanes_own, lanes_splat, lanes_zip, before_set, top_at_set}
use Rattle.tendril_fmt.proofs.Lanes.{top_mask}
use Rattle.tendril_fmt.proofs.blocks.leading_ascii.Goals as goal

lanes : (c : goal.After-first_set) → IsLanes 16 (zip2 at_most (replicate 16 0x80) c.args.block)
    (λ k. at_most 0x80 (get_or c.args.block k 0))
lanes c = lanes_zip 16 at_most _ _ _ _ (lanes_splat 16 0x80) (lanes_own 16 c.args.block c.fits-block.0)

below : (x : ℕ) → top 7 (at_most 0x80 x) ≡ false → x < 0x80
below x e = let t : leb 0x80 x ≡ false = sym (top_mask (leb 0x80 x)) ∙ e in grind (arith, nat_tests)

above : (x : ℕ) → top 7 (at_most 0x80 x) ≡ true → 0x80 ≤ x
above x e = let t : leb 0x80 x ≡ true = sym (top_mask (leb 0x80 x)) ∙ e in grind (arith, nat_tests)

pub returns-clause-few : goal.returns-clause-few
returns-clause-few c = (before_set 16 c.first_set.result _ _ (lanes c) (omega arith) c.first_set.ensures).0

pub returns-clause-ascii : goal.returns-clause-ascii
returns-clause-ascii c k lt =
    below (get_or c.args.block k 0)
    ((before_set 16 c.first_set.result _ _ (lanes c) (omega arith) c.first_set.ensures).1 k lt)

pub returns-clause-stops : goal.returns-clause-stops
returns-clause-stops c within =
    above (get_or c.args.block c.first_set.result 0)
    (top_at_set 16 c.first_set.result _ _ (lanes c) (omega arith) c.first_set.ensures within)
