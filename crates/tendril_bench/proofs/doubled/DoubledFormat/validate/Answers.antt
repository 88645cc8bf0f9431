use Rattle.std.proofs.Common.{◌≡◌, ℕ, true, ◌==◌, length, sym, ap, ◌∙◌, arith}
use Rattle.std.proofs.lemmas.Bool.Decides.{nat_tests}
use Rattle.tendril_bench.specs.Doubled.{IsDoubled}
use Rattle.tendril_bench.proofs.Doubles.{IsDoubled-first_two, IsDoubled-after_two, IsDoubled-short}
use Rattle.tendril_bench.proofs.doubled.DoubledFormat.validate.Goals as goal
use Rattle.tendril_bench.proofs.doubled.DoubledFormat.validate.Goals.{then-first-second-via-then-first-second}
use Rattle.tendril_bench.proofs.doubled.DoubledFormat.validate.Goals.{then-first-second-via-else-first-second+then-first-ge128}

pub returns-then-first-second : goal.returns-then-first-second
returns-then-first-second c =
    let two = λ (w : IsDoubled c.args.bytes.now). IsDoubled-first_two c.loop-rest.rest.now c.in-len2-up.len_at_least
    (c.loop-rest.invariant.0 w) in
    elim c.then-first-second.branch [
      | then-first-second-via-then-first-second b ↦ (
        λ t. let none : ⊥ = cc in
            absurd none,
        λ w. absurd (b.if-first-second.true (two w).0),
      )
      | then-first-second-via-else-first-second+then-first-ge128 b ↦ (
        λ t. let none : ⊥ = cc in
            absurd none,
        λ w. let none : ⊥ = omega (arith, (two w).1, b.if-first-ge128.true) in absurd none,
      )
    ]

pub loop-rest-preserved : goal.loop-rest-preserved
loop-rest-preserved c =
    let was = c.loop-rest.invariant in
    let k = IsDoubled-after_two c.loop-rest.rest.now c.in-len2-up.len_at_least c.if-first-second.false
    c.if-first-ge128.false in
    (λ w. k.0 (was.0 w), λ w. was.1 (k.1 w))

is_zero : (n : ℕ) → (n == 0) ≡ true → n ≡ 0
is_zero n e = grind (arith, nat_tests)

pub returns : goal.returns
returns c =
    let was = c.loop-rest.invariant in
    let k = IsDoubled-short c.loop-rest.rest.now c.in_default.len_below in
    let e = c.is_empty.ensures in
    (λ t. was.1 (k.1 (is_zero (length c.loop-rest.rest.now) (sym e ∙ t))), λ w. e ∙ ap (λ n. n == 0) (k.0 (was.0 w)))
