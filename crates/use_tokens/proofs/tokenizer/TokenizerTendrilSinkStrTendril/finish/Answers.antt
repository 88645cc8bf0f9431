use Rattle.std.proofs.Common.{rules, ◌≡◌, ◌<◌, ◌++◌, length, ap, subst, ◌∙◌, arith}
use Rattle.std.proofs.lemmas.Grind.{common_steps}
use Rattle.use_tokens.proofs.Steps.{of_err}
use Rattle.use_tokens.specs.Spelled.{pending}
use Rattle.use_tokens.proofs.tokenizer.TokenizerTendrilSinkStrTendril.finish.Goals as goal

pub returns-in_err-process_token-clause-err : goal.returns-in_err-process_token-clause-err
returns-in_err-process_token-clause-err g c =
    let source = c.in_ok-source.source.bytes in
    let input = c.args.self.input in
    let some : 0 < length source = first_of (search rules, grind (arith, common_steps)) in
    let all : source ≡ pending c.args.self.state input = c.in_ok-source.ensures.ok
    ∙ ap (λ b. b ++ input.bytes) c.begun_text.ensures in
    of_err c.from_residual-in_err-process_token.result (0 < length (pending c.args.self.state input))
    (subst (λ b. 0 < length b) all some)
