use Rattle.std.proofs.Common.{◌≡◌, ℕ, ◌+◌, ◌*◌, ◌/◌, ◌<◌, List, [], ◌∷◌, ◌++◌, length, replicate, get_or}
use Rattle.std.proofs.Common.{refl, sym, subst, arith}
use Rattle.std.specs.Simd.Lanes.{zip2, pick_l}
use Rattle.tendril_fmt.proofs.Lanes.{IsLanes, add, mul, div, rem, lanes_own, lanes_splat, lanes_zip, lanes_map}
use Rattle.tendril_fmt.proofs.Lanes.{lanes_list, lanes_divide, lane_small}
use Rattle.tendril_fmt.proofs.Pairs.{lead_bits, first_of_pair, second_of_pair, third_of_pair, fourth_of_pair, pairs_are}
use Rattle.tendril_fmt.proofs.blocks.encode_pairs.Goals as goal

abbrev lead_twice : List ℕ
lead_twice = 0 ∷ 0 ∷ 2 ∷ 2 ∷ 4 ∷ 4 ∷ 6 ∷ 6 ∷ 8 ∷ 8 ∷ 10 ∷ 10 ∷ 12 ∷ 12 ∷ 14 ∷ 14 ∷ []

-- The vectors of a block, by their lanes.
module _ (low high : List ℕ) (long : length low ≡ 16) (also : length high ≡ 16) where
  abbrev tops : List ℕ
  tops = zip2 rem high (replicate 16 4)

  abbrev bits : List ℕ
  bits = zip2 add (zip2 div low (replicate 16 4)) (replicate 16 16)

  abbrev firsts : List ℕ
  firsts = zip2 add (zip2 add (zip2 div bits (replicate 16 64)) tops) (replicate 16 240)

  abbrev seconds : List ℕ
  seconds = zip2 add (zip2 rem bits (replicate 16 64)) (replicate 16 128)

  abbrev lead_lows : List ℕ
  lead_lows = pick_l 0 (low ++ low) lead_twice

  abbrev middles : List ℕ
  middles =
      zip2 add (zip2 mul (zip2 rem lead_lows (replicate 16 4)) (replicate 16 16)) (zip2 mul tops (replicate 16 4))

  abbrev thirds : List ℕ
  thirds = zip2 add (zip2 add middles (zip2 div low (replicate 16 64))) (replicate 16 128)

  abbrev fourths : List ℕ
  fourths = zip2 add (zip2 rem low (replicate 16 64)) (replicate 16 128)

  lows : IsLanes 16 low (λ k. get_or low k 0)
  lows = lanes_own 16 low long

  top_lanes : IsLanes 16 tops (λ k. rem (get_or high k 0) 4)
  top_lanes = lanes_zip 16 rem _ _ _ _ (lanes_own 16 high also) (lanes_splat 16 4)

  bit_lanes : IsLanes 16 bits (λ k. lead_bits (get_or low k 0))
  bit_lanes = lanes_zip 16 add _ _ _ _ (lanes_zip 16 div _ _ _ _ lows (lanes_splat 16 4)) (lanes_splat 16 16)

  first_lanes : IsLanes 16 firsts (λ k. first_of_pair (get_or low k 0) (get_or high k 0))
  first_lanes =
      lanes_zip 16 add _ _ _ _
      (lanes_zip 16 add _ _ _ _ (lanes_zip 16 div _ _ _ _ bit_lanes (lanes_splat 16 64)) top_lanes)
      (lanes_splat 16 240)

  second_lanes : IsLanes 16 seconds (λ k. second_of_pair (get_or low k 0))
  second_lanes =
      lanes_zip 16 add _ _ _ _ (lanes_zip 16 rem _ _ _ _ bit_lanes (lanes_splat 16 64)) (lanes_splat 16 128)

  lead_low_lanes : IsLanes 16 lead_lows (λ k. get_or low (k / 2 * 2) 0)
  lead_low_lanes =
      let f : ℕ → ℕ = λ k. get_or low k 0 in
      subst (λ (l : List ℕ). IsLanes 16 (pick_l 0 (l ++ l) lead_twice) (λ k. f (k / 2 * 2)))
      (sym (lanes_list 16 low f f lows (λ k lt. refl))) (lanes_map 16 (λ k. f (k / 2 * 2)))

  third_lanes : IsLanes 16 thirds (λ k. third_of_pair (get_or low k 0) (get_or high k 0) (get_or low (k / 2 * 2) 0))
  third_lanes =
      lanes_zip 16 add _ _ _ _
      (lanes_zip 16 add _ _ _ _
      (lanes_zip 16 add _ _ _ _
      (lanes_zip 16 mul _ _ _ _ (lanes_zip 16 rem _ _ _ _ lead_low_lanes (lanes_splat 16 4)) (lanes_splat 16 16))
      (lanes_zip 16 mul _ _ _ _ top_lanes (lanes_splat 16 4)))
      (lanes_zip 16 div _ _ _ _ lows (lanes_splat 16 64)))
      (lanes_splat 16 128)

  fourth_lanes : IsLanes 16 fourths (λ k. fourth_of_pair (get_or low k 0))
  fourth_lanes = lanes_zip 16 add _ _ _ _ (lanes_zip 16 rem _ _ _ _ lows (lanes_splat 16 64)) (lanes_splat 16 128)

pub nonzero_rem-top_bits : goal.nonzero_rem-top_bits
nonzero_rem-top_bits c = lanes_divide 16 4 c.args.high (omega arith)

pub nonzero_div-lead_bits : goal.nonzero_div-lead_bits
nonzero_div-lead_bits c = lanes_divide 16 4 c.args.low (omega arith)

pub nonzero_div-first : goal.nonzero_div-first
nonzero_div-first c = lanes_divide 16 64 _ (omega arith)

pub nonzero_rem-second : goal.nonzero_rem-second
nonzero_rem-second c = lanes_divide 16 64 _ (omega arith)

pub nonzero_div-third : goal.nonzero_div-third
nonzero_div-third c = lanes_divide 16 64 c.args.low (omega arith)

pub nonzero_rem-fourth : goal.nonzero_rem-fourth
nonzero_rem-fourth c = lanes_divide 16 64 c.args.low (omega arith)

pub returns : goal.returns
returns c rest =
    let low = c.args.low in
    let high = c.args.high in
    let long = c.fits-low.0 in
    let also = c.fits-high.0 in
    let small : (k : ℕ) → k < 16 → get_or low k 0 < 256 = λ k lt. lane_small low 16 k long c.fits-low.1 lt in
    let own =
    lanes_zip 16 (λ l h. l + 256 * h) low high _ _ (lanes_own 16 low long) (lanes_own 16 high also) in
    pairs_are (λ k. get_or low k 0) (λ k. get_or high k 0) _ _ _ _ _ rest
    (λ k lt.
    let is = c.requires k (omega (arith, also)) in (
      record { low = small (2 * k) (omega arith); from = is.0; below = is.1 },
      record { low = small (2 * k + 1) (omega arith); from = is.2; below = is.3 },
    ))
    (lanes_list 16 _ _ _ own (λ k lt. refl))
    (lanes_list 16 _ _ _ (first_lanes low high long also) (λ k lt. refl))
    (lanes_list 16 _ _ _ (second_lanes low high long also) (λ k lt. refl))
    (lanes_list 16 _ _ _ (third_lanes low high long also) (λ k lt. refl))
    (lanes_list 16 _ _ _ (fourth_lanes low high long also) (λ k lt. refl))
