use Rattle.std.proofs.Common.{◌≡◌, ◌+◌, ◌≤◌, length, subst, sym, arith}
use Rattle.std.specs.Int.{bit_at}
use Rattle.std.proofs.lemmas.Nat.Bits.{bit_at-zero}
use Rattle.tendril_fmt.proofs.Searches.{block_size, passes_block, passes_part}
use Rattle.tendril_fmt.proofs.cuts.byte_set.skip_others.Goals as goal

pub returns-then-found-ne0-clause-within : goal.returns-then-found-ne0-clause-within
returns-then-found-ne0-clause-within c =
    let within : c.sixteens.at + 16 ≤ length c.args.bytes.now =
    omega (arith, c.sixteens-test.true, c.sixteens.invariant.0) in
    let less = c.places_of-found.ensures.within c.lowest.result c.lowest.ensures.set in
    omega (arith, within, less)

pub returns-then-found-ne0-clause-passed : goal.returns-then-found-ne0-clause-passed
returns-then-found-ne0-clause-passed c =
    let less = c.places_of-found.ensures.within c.lowest.result c.lowest.ensures.set in
    passes_part c.args.bytes.now c.args.a c.args.b c.args.c c.args.d c.sixteens.at 16 c.lowest.result
    c.sixteens.invariant.1 (omega (arith, less))
    (λ k l. c.places_of-found.ensures.others k (omega (arith, l, less)) (c.lowest.ensures.below k l))

pub sixteens-preserved : goal.sixteens-preserved
sixteens-preserved c =
    let within : c.sixteens.at + 16 ≤ length c.args.bytes.now =
    omega (arith, c.sixteens-test.true, c.sixteens.invariant.0) in (
      within,
      passes_block c.args.bytes.now c.args.a c.args.b c.args.c c.args.d c.sixteens.at 16
          c.sixteens.invariant.1 within
          (λ k l. c.places_of-found.ensures.others k
          (let size = block_size c.args.bytes.now c.sixteens.at 16 within in omega (arith, l, size))
          (subst (λ m. bit_at m k ≡ 0) (sym c.if-found-ne0.false) (bit_at-zero k))),
    )

pub returns-then-not-has_any-clause-passed : goal.returns-then-not-has_any-clause-passed
returns-then-not-has_any-clause-passed c =
    let within : c.sixteens.at + 8 ≤ length c.args.bytes.now =
    omega (arith, c.if-bytes-at-ge8.true, c.sixteens.invariant.0) in
    passes_block c.args.bytes.now c.args.a c.args.b c.args.c c.args.d c.sixteens.at 8
    c.sixteens.invariant.1 within (c.has_any.ensures c.if-not-has_any.true)
