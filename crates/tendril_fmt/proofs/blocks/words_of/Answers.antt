use Rattle.std.proofs.Common.{◌≡◌, ℕ, ◌+◌, ◌*◌, ◌≤◌, List, length, replicate, map, get_or}
use Rattle.std.proofs.Common.{slice_index, bit_and}
use Rattle.std.proofs.Common.{refl, arith, inl, inr}
use Rattle.std.specs.Simd.Lanes.{zip2, sel_l, top}
use Rattle.std.proofs.lemmas.Bool.{cases_lt}
use Rattle.std.proofs.lemmas.List.{get_or_past}
use Rattle.tendril_fmt.proofs.Lanes.{IsLanes, add, mul, div, rem, same, less, at_most, lanes_own}
use Rattle.tendril_fmt.proofs.Lanes.{lanes_splat, lanes_zip}
use Rattle.tendril_fmt.proofs.Lanes.{lanes_select, lanes_list, lanes_divide, lane_small}
use Rattle.tendril_fmt.proofs.Words.{words_are, first_byte, second_byte, last_byte, byte_count, count_few}
use Rattle.tendril_fmt.proofs.blocks.words_of.Goals as goal

-- The vectors of a block, by their lanes.
module _ (low high : List ℕ) (long : length low ≡ 16) (also : length high ≡ 16) where
  abbrev ones : List ℕ
  ones = zip2 bit_and (zip2 same high (replicate 16 0)) (zip2 less low (replicate 16 128))

  abbrev threes : List ℕ
  threes = zip2 at_most (replicate 16 8) high

  abbrev middles : List ℕ
  middles =
      zip2 add (zip2 mul (zip2 rem high (replicate 16 16)) (replicate 16 4)) (zip2 div low (replicate 16 64))

  abbrev lasts : List ℕ
  lasts = zip2 add (zip2 rem low (replicate 16 64)) (replicate 16 128)

  lows : IsLanes 16 low (λ k. get_or low k 0)
  lows = lanes_own 16 low long

  highs : IsLanes 16 high (λ k. get_or high k 0)
  highs = lanes_own 16 high also

  one_lanes : IsLanes 16 ones (λ k. bit_and (same (get_or high k 0) 0) (less (get_or low k 0) 128))
  one_lanes =
      lanes_zip 16 bit_and _ _ _ _ (lanes_zip 16 same _ _ _ _ highs (lanes_splat 16 0))
      (lanes_zip 16 less _ _ _ _ lows (lanes_splat 16 128))

  three_lanes : IsLanes 16 threes (λ k. at_most 8 (get_or high k 0))
  three_lanes = lanes_zip 16 at_most _ _ _ _ (lanes_splat 16 8) highs

  middle_lanes : IsLanes 16 middles
      (λ k. add (mul (rem (get_or high k 0) 16) 4) (div (get_or low k 0) 64))
  middle_lanes =
      lanes_zip 16 add _ _ _ _
      (lanes_zip 16 mul _ _ _ _ (lanes_zip 16 rem _ _ _ _ highs (lanes_splat 16 16)) (lanes_splat 16 4))
      (lanes_zip 16 div _ _ _ _ lows (lanes_splat 16 64))

  pub last_lanes : IsLanes 16 lasts (λ k. last_byte (get_or low k 0))
  last_lanes = lanes_zip 16 add _ _ _ _ (lanes_zip 16 rem _ _ _ _ lows (lanes_splat 16 64)) (lanes_splat 16 128)

  abbrev firsts : List ℕ
  firsts = sel_l (map (top 7) threes) (zip2 add (zip2 div high (replicate 16 16)) (replicate 16 224))
      (sel_l (map (top 7) ones) low (zip2 add middles (replicate 16 192)))

  first_lanes : IsLanes 16 firsts (λ k. first_byte (get_or low k 0) (get_or high k 0))
  first_lanes =
      lanes_select 7 16 threes _ _ _ _ _ three_lanes
      (lanes_zip 16 add _ _ _ _ (lanes_zip 16 div _ _ _ _ highs (lanes_splat 16 16)) (lanes_splat 16 224))
      (lanes_select 7 16 ones _ _ _ _ _ one_lanes lows (lanes_zip 16 add _ _ _ _ middle_lanes (lanes_splat 16 192)))

  abbrev seconds : List ℕ
  seconds = sel_l (map (top 7) threes) (zip2 add middles (replicate 16 128)) lasts

  second_lanes : IsLanes 16 seconds (λ k. second_byte (get_or low k 0) (get_or high k 0))
  second_lanes =
      lanes_select 7 16 threes _ _ _ _ _ three_lanes (lanes_zip 16 add _ _ _ _ middle_lanes (lanes_splat 16 128))
      last_lanes

  abbrev counts : List ℕ
  counts = sel_l (map (top 7) threes) (replicate 16 3) (sel_l (map (top 7) ones) (replicate 16 1) (replicate 16 2))

  count_lanes : IsLanes 16 counts (λ k. byte_count (get_or low k 0) (get_or high k 0))
  count_lanes =
      lanes_select 7 16 threes _ _ _ _ _ three_lanes (lanes_splat 16 3)
      (lanes_select 7 16 ones _ _ _ _ _ one_lanes (lanes_splat 16 1) (lanes_splat 16 2))

  count_small : (k : ℕ) → slice_index counts k ≤ 3
  count_small k = elim (cases_lt k 16) [
    | inl lt ↦ omega (arith, count_lanes.lanes k lt, count_few (get_or low k 0) (get_or high k 0))
    | inr le ↦ omega (arith, get_or_past counts k 0 (omega (arith, count_lanes.long)))
  ]

pub nonzero_div-lead : goal.nonzero_div-lead
nonzero_div-lead c = lanes_divide 16 16 c.args.high (omega arith)

pub nonzero_rem-middle : goal.nonzero_rem-middle
nonzero_rem-middle c = lanes_divide 16 16 c.args.high (omega arith)

pub nonzero_div-middle : goal.nonzero_div-middle
nonzero_div-middle c = lanes_divide 16 64 c.args.low (omega arith)

pub nonzero_rem-last : goal.nonzero_rem-last
nonzero_rem-last c = lanes_divide 16 64 c.args.low (omega arith)

pub returns-clause-few : goal.returns-clause-few
returns-clause-few c k = count_small c.args.low c.args.high c.fits-low.0 c.fits-high.0 k

pub returns-clause-words : goal.returns-clause-words
returns-clause-words c =
    let low = c.args.low in
    let high = c.args.high in
    let long = c.fits-low.0 in
    let also = c.fits-high.0 in
    let own =
    lanes_zip 16 (λ l h. l + 256 * h) low high _ _ (lanes_own 16 low long) (lanes_own 16 high also) in
    words_are (λ k. get_or low k 0) (λ k. get_or high k 0) _ _ _ _ _
    (λ k lt. (lane_small low 16 k long c.fits-low.1 lt, lane_small high 16 k also c.fits-high.1 lt))
    (lanes_list 16 _ _ _ own (λ k lt. refl))
    (lanes_list 16 _ _ _ (first_lanes low high long also) (λ k lt. refl))
    (lanes_list 16 _ _ _ (second_lanes low high long also) (λ k lt. refl))
    (lanes_list 16 _ _ _ (last_lanes low high long also) (λ k lt. refl))
    (lanes_list 16 _ _ _ (count_lanes low high long also) (λ k lt. refl))
