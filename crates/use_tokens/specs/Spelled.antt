-- The bytes that tokens spell.
use Rattle.std.specs.Prelude.{ℕ, ◌≡◌, ◌<◌, ◌+◌, Bool, List, [], ◌++◌, length, flat_map}
use Rattle.std.specs.Prelude.{Result, IfOk, OnOk, OnErr, IsTrue, IsFalse}
use Rattle.tendril.specs.Fmt.Parts.{IsFrontOf}
use Rattle.tendril_queue.specs.Queues.{Queued}
use Rattle.use_tokens.specs.declared.state.State.{State}
use Rattle.use_tokens.specs.declared.state.State.TheVariants.{Outside, Inside}
use Rattle.use_tokens.specs.declared.token.Token.{Token}

-- the sources of tokens, joined
abbrev pub joined_sources : List Token → List ℕ
joined_sources tokens = flat_map (λ token. token.source.bytes) tokens

-- from the tokens `before`, the bytes became new tokens, and the remainder is left
abbrev pub TokensSpell : List Token → List ℕ → List Token → List ℕ → Type 0
TokensSpell before bytes tokens left = joined_sources tokens ++ left ≡ joined_sources before ++ bytes

-- what holds after an error: the sources of all tokens are a prefix of those of `before` and the bytes
abbrev pub TokensSpellPrefix : List Token → List ℕ → List Token → Type 0
TokensSpellPrefix before bytes tokens = IsFrontOf (joined_sources tokens) (joined_sources before ++ bytes)

-- the bytes of incomplete markup
abbrev pub begun_bytes : State → List ℕ
begun_bytes Outside = []
begun_bytes (Inside markup begun) = begun.bytes

-- the pending bytes: those of incomplete markup, and of texts that aren't processed yet
abbrev pub pending : State → Queued → List ℕ
pending state input = begun_bytes state ++ input.bytes

-- the pending bytes while a text is split: of incomplete markup, of the rest of that text, and of those after it
abbrev pub untaken : State → List ℕ → Queued → List ℕ
untaken state text input = begun_bytes state ++ (text ++ input.bytes)

-- What a step of the tokenizer takes from a text and the texts after it, if there is more to take. After an error the
-- sink has the tokens that it had.
pub record TokenizerStep {E : Type 0} (tokens : List Token) (state : State) (text : List ℕ) (input : Queued)
    (result : Result Bool E) (tokens' : List Token) (state' : State) (text' : List ℕ) (input' : Queued) : Type 0 where
  pub ok : OnOk result (TokensSpell tokens (untaken state text input) tokens' (untaken state' text' input'))
  pub shorter : IfOk result (λ more. IsTrue more →
      length text' + length input'.bytes < length text + length input.bytes)
  pub done : IfOk result (λ more. IsFalse more → text' ≡ [])
  pub err : OnErr result (tokens' ≡ tokens)
