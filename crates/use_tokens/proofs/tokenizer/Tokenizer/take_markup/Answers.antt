use Rattle.std.proofs.Common.{◌≡◌, ◌++◌, subst}
use Rattle.std.specs.Prelude.{IfSome}
use Rattle.use_tokens.proofs.Steps.{cut_end}
use Rattle.use_tokens.specs.Ends.{EndsAt}
use Rattle.use_tokens.proofs.tokenizer.Tokenizer.take_markup.Goals as goal

pub split_to-requires-clause-front_valid : goal.split_to-requires-clause-front_valid
split_to-requires-clause-front_valid g c =
    let ends = rw c.in_default-Some.is-1 at c.scan.ensures in
    (cut_end c.args.text.now.bytes c.args.start c.in_default-Some.count c.as_byte_slice.ensures.valid
    (subst (λ b. EndsAt b c.args.start c.in_default-Some.count) c.as_byte_slice.ensures.value ends)).0

pub split_to-requires-clause-rest_valid : goal.split_to-requires-clause-rest_valid
split_to-requires-clause-rest_valid g c =
    let ends = rw c.in_default-Some.is-1 at c.scan.ensures in
    (cut_end c.args.text.now.bytes c.args.start c.in_default-Some.count c.as_byte_slice.ensures.valid
    (subst (λ b. EndsAt b c.args.start c.in_default-Some.count) c.as_byte_slice.ensures.value ends)).1
