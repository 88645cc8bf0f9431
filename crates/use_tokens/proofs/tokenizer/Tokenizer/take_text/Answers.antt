use Rattle.std.proofs.Common.{◌++◌, IsUtf8, subst}
use Rattle.use_tokens.proofs.Steps.{cut_found}
use Rattle.use_tokens.proofs.tokenizer.Tokenizer.take_text.Goals as goal

pub split_to-requires-clause-front_valid : goal.split_to-requires-clause-front_valid
split_to-requires-clause-front_valid g c =
    let found = rw c.in-Some.is at c.find_byte.ensures in
    (cut_found c.args.text.now.bytes c.in-Some.count (subst IsUtf8 c.as_str-is_utf8.ensures.value c.as_str-is_utf8.utf8)
    found).0

pub split_to-requires-clause-rest_valid : goal.split_to-requires-clause-rest_valid
split_to-requires-clause-rest_valid g c =
    let found = rw c.in-Some.is at c.find_byte.ensures in
    (cut_found c.args.text.now.bytes c.in-Some.count (subst IsUtf8 c.as_str-is_utf8.ensures.value c.as_str-is_utf8.utf8)
    found).1
