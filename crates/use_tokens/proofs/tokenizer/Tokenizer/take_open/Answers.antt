use Rattle.std.proofs.Common.{◌<◌, ◌++◌, arith, subst, sym}
use Rattle.use_tokens.proofs.Steps.{cut_behind}
use Rattle.use_tokens.proofs.tokenizer.Tokenizer.take_open.Goals as goal

pub split_to-requires-clause-front_valid : goal.split_to-requires-clause-front_valid
split_to-requires-clause-front_valid g c =
    (cut_behind c.args.text.now.bytes 0 c.as_byte_slice.ensures.valid c.requires.some
    (subst (λ b. b < 128) (sym c.requires.open) (omega arith))).0

pub split_to-requires-clause-rest_valid : goal.split_to-requires-clause-rest_valid
split_to-requires-clause-rest_valid g c =
    (cut_behind c.args.text.now.bytes 0 c.as_byte_slice.ensures.valid c.requires.some
    (subst (λ b. b < 128) (sym c.requires.open) (omega arith))).1
