use Rattle.std.proofs.Common.{◌≡◌, ℕ, ◌<◌, false, leb, eqb, not, replicate, bit_or}
use Rattle.std.proofs.Common.{get_or, sym, ap, arith, eqb-true}
use Rattle.std.specs.Simd.Lanes.{zip2}
use Rattle.std.proofs.lemmas.Bool.Decides.{nat_tests}
use Rattle.tendril_fmt.specs.Blocks.{first_set}
use Rattle.tendril_fmt.proofs.Lanes.{other, at_most, lanes_own, lanes_splat, lanes_zip, before_set, neither}
use Rattle.tendril_fmt.proofs.blocks.are_ascii.Goals as goal

below : (l : ℕ) → leb 0x80 l ≡ false → l < 0x80
below l e = grind (arith, nat_tests)

zero_is : (h : ℕ) → not (eqb h 0) ≡ false → h ≡ 0
zero_is h e = grind (arith, nat_tests)

pub returns : goal.returns
returns c e k lt =
    let low = c.args.low in
    let high = c.args.high in
    let found = before_set 16 16 _ _
    (lanes_zip 16 bit_or (zip2 at_most (replicate 16 0x80) low) (zip2 other high (replicate 16 0)) _ _
    (lanes_zip 16 at_most (replicate 16 0x80) low _ _ (lanes_splat 16 0x80) (lanes_own 16 low c.fits-low.0))
    (lanes_zip 16 other high (replicate 16 0) _ _ (lanes_own 16 high c.fits-high.0) (lanes_splat 16 0)))
    (omega arith) (sym (ap (first_set 16) (eqb-true _ _ e))) in
    let both = neither _ _ (found.1 k lt) in
    (below (get_or low k 0) both.0, zero_is (get_or high k 0) both.1)
