use Rattle.std.proofs.Common.{◌≡◌, ℕ, ◌++◌, true, List, length, take, sym, ap, ◌∙◌, arith, Fits, w8}
use Rattle.std.specs.Simd.Lanes.{Each1}
use Rattle.std.specs.Str.{all_scalars}
use Rattle.tendril_fmt.specs.Blocks.{LackSurrogates, units_of}
use Rattle.tendril_fmt.proofs.Lanes.{lane_small}
use Rattle.tendril_fmt.proofs.Words.{ascii_units, scalars_are}
use Rattle.tendril_fmt.proofs.blocks.encode_block.Goals as goal

scalars : (low high : List ℕ) → length low ≡ 16 → length high ≡ 16 → Each1 (Fits w8) low → Each1 (Fits w8) high
    → LackSurrogates high → all_scalars (units_of low high) ≡ true
scalars low high long also fits fit lack =
    scalars_are low high (λ k lt. lane_small low 16 k long fits (omega arith))
    (λ k lt. lane_small high 16 k also fit (omega arith)) lack

pub returns-then-are_ascii-clause-bytes : goal.returns-then-are_ascii-clause-bytes
returns-then-are_ascii-clause-bytes c =
    let low = c.args.low in
    let high = c.args.high in
    c.put_run.ensures.bytes
    ∙ ap (λ l. take c.args.at c.args.bytes.now ++ l)
    (sym (ascii_units low high (c.fits-low.0 ∙ sym c.fits-high.0)
    (λ k lt. c.are_ascii.ensures c.if-are_ascii.true k (omega (arith, c.fits-low.0)))))

pub returns-then-are_ascii-clause-scalars : goal.returns-then-are_ascii-clause-scalars
returns-then-are_ascii-clause-scalars c lack =
    scalars c.args.low c.args.high c.fits-low.0 c.fits-high.0 c.fits-low.1 c.fits-high.1 lack

pub returns-then-are_threes-clause-scalars : goal.returns-then-are_threes-clause-scalars
returns-then-are_threes-clause-scalars c lack =
    scalars c.args.low c.args.high c.fits-low.0 c.fits-high.0 c.fits-low.1 c.fits-high.1 lack

pub returns-clause-scalars : goal.returns-clause-scalars
returns-clause-scalars c lack =
    scalars c.args.low c.args.high c.fits-low.0 c.fits-high.0 c.fits-low.1 c.fits-high.1 lack
