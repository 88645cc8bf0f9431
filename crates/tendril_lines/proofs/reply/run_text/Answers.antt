use Rattle.std.proofs.Common.{rules}
use mathlib.Core.List.{append_assoc}
use Rattle.tendril_lines.proofs.reply.run_text.Goals as goal

pub returns : goal.returns
returns c = search (rules, append_assoc)
