use Rattle.std.proofs.Common.{◌≡◌, ℕ, ◌≢◌, false, sym, ap, ◌∙◌, arith}
use Rattle.std.specs.Prelude.{◌==◌}
use Rattle.std.proofs.lemmas.Bool.{cond-false}
use Rattle.std.proofs.lemmas.Bool.Decides.{nat_tests}
use Rattle.tendril_decode.specs.Big5.{big5_at}
use Rattle.tendril_decode.specs.TwoBytes.{pair_of}
use Rattle.tendril_decode.proofs.big5.pair_at.Goals as goal

differs : (p n : ℕ) → p ≢ n → (p == n) ≡ false
differs p n h = grind (arith, nat_tests)

pub returns-then-pointer-eq1133-clause-value : goal.returns-then-pointer-eq1133-clause-value
unfolding big5_at
returns-then-pointer-eq1133-clause-value c = sym (ap big5_at c.if-pointer-eq1133.true)

pub returns-then-pointer-eq1135-clause-value : goal.returns-then-pointer-eq1135-clause-value
unfolding big5_at
returns-then-pointer-eq1135-clause-value c = sym (ap big5_at c.if-pointer-eq1135.true)

pub returns-then-pointer-eq1164-clause-value : goal.returns-then-pointer-eq1164-clause-value
unfolding big5_at
returns-then-pointer-eq1164-clause-value c = sym (ap big5_at c.if-pointer-eq1164.true)

pub returns-then-pointer-eq1166-clause-value : goal.returns-then-pointer-eq1166-clause-value
unfolding big5_at
returns-then-pointer-eq1166-clause-value c = sym (ap big5_at c.if-pointer-eq1166.true)

pub returns-clause-value : goal.returns-clause-value
unfolding big5_at
returns-clause-value c =
    let p = c.args.pointer in
    c.pair_of.ensures.value ∙ ap pair_of c.big5_at.ensures.value
    ∙ sym (cond-false _ _ _ (differs p 1133 c.if-pointer-eq1133.false)
    ∙ cond-false _ _ _ (differs p 1135 c.if-pointer-eq1135.false)
    ∙ cond-false _ _ _ (differs p 1164 c.if-pointer-eq1164.false)
    ∙ cond-false _ _ _ (differs p 1166 c.if-pointer-eq1166.false))
