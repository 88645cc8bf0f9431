use Rattle.std.proofs.Common.{◌/◌, eqb, not, map, ap, ◌∙◌, arith, w8, replicate}
use Rattle.std.specs.Simd.Lanes.{mask_l, zip2}
use Rattle.std.proofs.lemmas.Simd.{bitmask_splat, map-map, zip2_splat}
use Rattle.tendril_fmt.proofs.Lanes.{div, lanes_divide, lanes_own, lanes_splat, lanes_zip}
use Rattle.tendril_fmt.proofs.fmt.unit_blocks.mark_starts.Goals as goal

pub nonzero_div-result : goal.nonzero_div-result
nonzero_div-result c = lanes_divide 8 64 c.args.bytes (omega arith)

pub returns : goal.returns
returns c =
    let bytes = c.args.bytes in
    let long = c.fits-bytes.0 in
    let quotients = lanes_zip 8 div bytes (replicate 8 64) _ _ (lanes_own 8 bytes long) (lanes_splat 8 64) in
    bitmask_splat w8 (λ a b. not (eqb a b)) (zip2 div bytes (replicate 8 64)) 8 2 quotients.long (omega arith)
    ∙ ap (λ l. mask_l (map (λ q. not (eqb q 2)) l)) (zip2_splat div bytes 8 64 long)
    ∙ ap mask_l (map-map (λ q. not (eqb q 2)) (λ b. b / 64) bytes)
