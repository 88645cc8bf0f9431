-- What a tokenizer behind a decoder spells after all was read.
use Rattle.std.proofs.Common.{◌≡◌, ℕ, Bool, false, List, [], ◌++◌, sym, ◌∙◌, append-nil}
use Rattle.std.specs.Prelude.{encode_utf8_all}
use Rattle.tendril.specs.Lossy.{Told, characters, due}
use Rattle.tendril.specs.Proofs.Refused.{DecoderTakes, stands_read}
use Rattle.tendril.specs.Proofs.Stands.{ends_at}
use Rattle.tendril.specs.Compositions.{FollowsCalls}
use Rattle.tendril.specs.Decoders.{Ends}
use Rattle.tendril.specs.Decodings.{utf8}
use Rattle.tendril.specs.Readings.{Receives}
use Rattle.tendril.specs.Reads.{OneRead, given}
use Rattle.tendril.specs.SentBytes.{sent_bytes}
use Rattle.tendril.specs.Sinks.{Sent}
use Rattle.tendril.specs.Utf8Laws.{is_utf8}
use Rattle.use_tokens.specs.Follows.{spelled_on}
use Rattle.use_tokens.specs.Spelled.{TokensSpell, joined_sources}
use Rattle.use_tokens.specs.declared.token.Token.{Token}

-- over sinks that have tokens and pending bytes
module _ {S : Type 0} (tokens : S → List Token) (left : S → List ℕ) where
  abbrev pub Takes : S → Sent → S → Type 0
  Takes a e b = TokensSpell (tokens a) (left a ++ sent_bytes e) (tokens b) (left b)

  -- after the bytes `start`, it spells what was sent to it
  abbrev pub After : List ℕ → S → List Told → Type 0
  After start a told = joined_sources (tokens a) ++ left a ≡ start ++ encode_utf8_all (characters told)

  pub goes_on : (start : List ℕ) → FollowsCalls Takes (After start)
  goes_on start told a e b is_sent was call = spelled_on start told e (tokens a) (left a) (tokens b)
      (left b) is_sent was call

  -- all was read into a new decoder over it
  pub whole : {D O : Type 0} (inner : D → S) (held : D → List ℕ) (failed : D → Bool) (out_tokens : O → List Token)
      (start : List ℕ) (sink : S) (d last : D) (these : List OneRead) (out : O)
      → inner d ≡ sink → held d ≡ [] → failed d ≡ false → After start sink []
      → Receives (DecoderTakes utf8 Takes inner held failed) d these last
      → Ends utf8 Takes (λ a o. TokensSpell (tokens a) (left a) (out_tokens o) []) (inner last) (held last) out
      → joined_sources (out_tokens out) ≡ start ++ encode_utf8_all (characters (due (given these)))
  whole inner held failed out_tokens start sink d last these out is none alive new receives ended =
      let stands = stands_read utf8 Takes inner held failed is_utf8 (After start) (goes_on start) sink d last these is
      none alive new receives in
      let e = ends_at utf8 is_utf8 Takes (After start) (goes_on start)
      (λ a o. TokensSpell (tokens a) (left a) (out_tokens o) []) (inner last) (held last)
      (given these) out stands.0 ended in
      sym (append-nil (joined_sources (out_tokens out))) ∙ e.2 ∙ e.1
