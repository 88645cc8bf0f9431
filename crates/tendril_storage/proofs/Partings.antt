use Rattle.std.proofs.Common.{ℕ, ◌+◌, length, ap, arith, inr, ◌∙◌}
use Rattle.std.proofs.lemmas.List.{length-take-le, length-drop}
use Rattle.tendril_storage.specs.Texts.{Text, SplitCost}
use Rattle.tendril_storage.specs.Partings.{IsFewTaken}

-- at most 8 bytes and the more than 8 that are left are the sides of a split
pub few_parts : (count skip : ℕ) (old front rest : Text) → IsFewTaken count skip old front rest
    → SplitCost old front rest
few_parts count skip old front rest cut =
    let few = cut.few in
    let many = cut.many in
    let front_copied = cut.front_copied in
    let rest_copied = cut.rest_copied in
    let front_len = ap length cut.front_bytes ∙ length-take-le count old.bytes (omega (arith, many)) in
    let rest_len = ap length cut.rest_bytes ∙ length-drop (count + skip) old.bytes in (
      (λ long. absurd (omega (arith, long, front_len, few)), λ _. omega (arith, front_copied, few)),
      (λ _. inr rest_copied, λ short. absurd (omega (arith, short, rest_len, many))),
      omega (arith, front_copied, few, rest_copied),
    )
