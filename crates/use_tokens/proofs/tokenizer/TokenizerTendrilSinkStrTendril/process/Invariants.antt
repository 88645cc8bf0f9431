use Rattle.std.proofs.Common.{length, ◌+◌, ◌++◌}
use Rattle.use_tokens.specs.Spelled.{TokensSpell, pending, untaken}
use Rattle.use_tokens.proofs.tokenizer.TokenizerTendrilSinkStrTendril.process.Given as goal

abbrev pub invariant-parts : goal.invariant-parts
invariant-parts g l =
    let tokens = g.K.TokenSink.tokens in
    TokensSpell (tokens l.fn.self.sink) (pending l.fn.self.state l.fn.self.input ++ l.fn.text.bytes)
    (tokens l.self.sink) (untaken l.self.state l.text.bytes l.self.input)

abbrev pub decreases-parts : goal.decreases-parts
decreases-parts g l = length l.text.bytes + length l.self.input.bytes
