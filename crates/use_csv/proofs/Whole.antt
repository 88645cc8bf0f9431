-- What a CSV reader behind a decoder spells after all was read.
use Rattle.std.proofs.Common.{◌≡◌, ℕ, Bool, false, List, [], ◌++◌, ap, ◌∙◌}
use Rattle.std.specs.Prelude.{encode_utf8_all}
use Rattle.tendril.specs.Lossy.{Told, characters, due}
use Rattle.tendril.specs.Proofs.Refused.{DecoderTakes, stands_read}
use Rattle.tendril.specs.Proofs.Stands.{ends_at}
use Rattle.tendril.specs.Compositions.{FollowsCalls}
use Rattle.tendril.specs.Decoders.{Ends}
use Rattle.tendril.specs.Decodings.{utf8}
use Rattle.tendril.specs.Readings.{Receives}
use Rattle.tendril.specs.Reads.{OneRead, given}
use Rattle.tendril.specs.SentBytes.{sent_bytes}
use Rattle.tendril.specs.Sinks.{Sent}
use Rattle.tendril.specs.Utf8Laws.{is_utf8}
use Rattle.use_csv.specs.Follows.{unmarked_on}
use Rattle.use_csv.specs.Spelled.{unmarked}

-- over sinks that spell bytes
module _ {S : Type 0} (spelled : S → List ℕ) where
  abbrev pub Takes : S → Sent → S → Type 0
  Takes a e b = unmarked (spelled b) ≡ unmarked (spelled a ++ sent_bytes e)

  -- after the bytes `start`, it spells what was sent to it
  abbrev pub After : List ℕ → S → List Told → Type 0
  After start a told = unmarked (spelled a) ≡ start ++ unmarked (encode_utf8_all (characters told))

  pub goes_on : (start : List ℕ) → FollowsCalls Takes (After start)
  goes_on start told a e b is_sent was call = unmarked_on start told e (spelled a) (spelled b) is_sent was call

  -- all was read into a new decoder over it
  pub whole : {D O : Type 0} (inner : D → S) (held : D → List ℕ) (failed : D → Bool) (out_bytes : O → List ℕ)
      (start : List ℕ) (sink : S) (d last : D) (these : List OneRead) (out : O)
      → inner d ≡ sink → held d ≡ [] → failed d ≡ false → After start sink []
      → Receives (DecoderTakes utf8 Takes inner held failed) d these last
      → Ends utf8 Takes (λ a o. out_bytes o ≡ spelled a) (inner last) (held last) out
      → unmarked (out_bytes out) ≡ start ++ unmarked (encode_utf8_all (characters (due (given these))))
  whole inner held failed out_bytes start sink d last these out is none alive new receives ended =
      let on = goes_on start in
      let stands = stands_read utf8 Takes inner held failed is_utf8 (After start) on sink d last these is none alive new
      receives in
      let e = ends_at utf8 is_utf8 Takes (After start) on (λ a o. out_bytes o ≡ spelled a) (inner last) (held last)
      (given these) out stands.0 ended in
      ap unmarked e.2 ∙ e.1
