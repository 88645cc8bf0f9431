use Rattle.std.proofs.Common.{ℕ, arith}
use Rattle.std.proofs.lemmas.Grind.{common_steps}
use Rattle.std.proofs.lemmas.List.{take-replicate}
use Rattle.tendril_block.proofs.inline_bytes.InlineBytes.push_tail.Goals as goal

pub returns-in-Zeros : goal.returns-in-Zeros
returns-in-Zeros c = grind (arith, common_steps, take-replicate {X = ℕ} c.in-Zeros.count 40 0)
