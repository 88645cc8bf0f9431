-- A tokenizer spells the UTF-8 of what was sent to it.
use Rattle.std.proofs.Common.{◌≡◌, ℕ, List, ◌++◌, sym, ap, ◌∙◌, append_assoc}
use Rattle.std.proofs.lemmas.Str.{encodes-append}
use Rattle.std.specs.Prelude.{encode_utf8_all}
use Rattle.tendril.specs.Proofs.Told.{characters-append}
use Rattle.tendril.specs.Lossy.{Told, characters}
use Rattle.tendril.specs.SentBytes.{sent_bytes, told_bytes}
use Rattle.tendril.specs.Sinks.{Sent, IsSent, told_of}
use Rattle.use_tokens.specs.Spelled.{TokensSpell, joined_sources}
use Rattle.use_tokens.specs.declared.token.Token.{Token}

-- one more call of the sink keeps this, after bytes `start` of earlier tokens
pub spelled_on : (start : List ℕ) (told : List Told) (e : Sent) (tokens : List Token) (held : List ℕ)
    (tokens' : List Token) (held' : List ℕ)
    → IsSent e → joined_sources tokens ++ held ≡ start ++ encode_utf8_all (characters told)
    → TokensSpell tokens (held ++ sent_bytes e) tokens' held'
    → joined_sources tokens' ++ held' ≡ start ++ encode_utf8_all (characters (told ++ told_of e))
spelled_on start told e tokens held tokens' held' is_sent was call =
    call ∙ sym (append_assoc (joined_sources tokens) held (sent_bytes e)) ∙ ap (λ l. l ++ sent_bytes e) was
    ∙ append_assoc start (encode_utf8_all (characters told)) (sent_bytes e)
    ∙ ap (λ l. start ++ l)
    (ap (λ l. encode_utf8_all (characters told) ++ l) (sym (told_bytes e is_sent))
    ∙ sym (encodes-append (characters told) (characters (told_of e)))
    ∙ ap encode_utf8_all (sym (characters-append told (told_of e))))
