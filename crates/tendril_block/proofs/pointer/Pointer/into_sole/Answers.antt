use Rattle.std.proofs.Common.{◌≡◌, ℕ}
use Rattle.std.proofs.Math.Nat.{ℕ_set}
use mathlib.Core.HLevel.{is_prop→PathP}
use Rattle.tendril_block.specs.declared.pointer.Pointer.{Pointer}
use Rattle.tendril_block.proofs.pointer.Pointer.into_sole.Goals as goal

-- pointers with the same node are equal: there is only one proof of their limit
same : (K : Type 0) (n : ℕ) (p q : Pointer K n) → p.node ≡ q.node → p ≡ q
same K n p q e = λ i. record {
  node = e i;
  up_to =
      is_prop→PathP (λ j. (e j).limit ≡ n) (λ j x y. ℕ_set _ _ x y) p.up_to q.up_to i;
}

pub returns-in-Err-clause-back : goal.returns-in-Err-clause-back
returns-in-Err-clause-back g c = same _ _ _ _ c.in-Err.ensures
