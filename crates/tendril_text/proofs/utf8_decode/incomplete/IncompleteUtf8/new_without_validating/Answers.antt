use Rattle.std.proofs.Common.{arith}
use Rattle.tendril_lossy.proofs.Completions.{open_len}
use Rattle.tendril_text.proofs.utf8_decode.incomplete.IncompleteUtf8.new_without_validating.Goals as goal

pub new-requires : goal.new-requires
new-requires c = omega (arith, open_len c.args.bytes.now c.requires)
