-- What a tokenizer behind a decoder has spelled when reading stopped.
use Rattle.std.proofs.Common.{◌≡◌, ◌⊎◌, ℕ, Bool, true, false, List, [], ◌++◌, Option, sym, ap, ◌∙◌, append_assoc}
use Rattle.std.proofs.lemmas.Str.{encodes-append}
use Rattle.std.specs.Prelude.{IfSome, encode_utf8_all}
use Rattle.tendril.specs.Refusal.{Refusal}
use Rattle.tendril.specs.Refusal.TheVariants.{Failed}
use Rattle.tendril.specs.Fmt.Parts.{IsFrontOf}
use Rattle.tendril.specs.Proofs.Told.{characters-append}
use Rattle.tendril.specs.Lossy.{Told, characters, due}
use Rattle.tendril.specs.Proofs.Halted.{halted as sink_halted}
use Rattle.tendril.specs.Proofs.Refused.{DecoderTakes}
use Rattle.tendril.specs.Decoders.{DecodingStops}
use Rattle.tendril.specs.Decodings.{utf8}
use Rattle.tendril.specs.Readings.{Halts}
use Rattle.tendril.specs.Reads.{OneRead, given}
use Rattle.tendril.specs.SentBytes.{sent_bytes, told_bytes}
use Rattle.tendril.specs.Sinks.{Sent, IsSent, told_of}
use Rattle.tendril.specs.Utf8Laws.{is_utf8}
use Rattle.use_tokens.proofs.Whole.{After, Takes, goes_on}
use Rattle.use_tokens.specs.Spelled.{TokensSpellPrefix, joined_sources}
use Rattle.use_tokens.specs.declared.token.Token.{Token}

-- the bytes of what was sent, and of more
bytes-append : (start : List ℕ) (t more : List Told) → start ++ encode_utf8_all (characters (t ++ more))
    ≡ (start ++ encode_utf8_all (characters t)) ++ encode_utf8_all (characters more)
bytes-append start t more =
    ap (λ l. start ++ l) (ap encode_utf8_all (characters-append t more)
    ∙ encodes-append (characters t) (characters more))
    ∙ sym (append_assoc start (encode_utf8_all (characters t)) (encode_utf8_all (characters more)))

module _ {S : Type 0} (tokens : S → List Token) (left : S → List ℕ) (start : List ℕ) where
  abbrev pub Refuses : S → Sent → Refusal → S → Type 0
  Refuses a e r b = TokensSpellPrefix (tokens a) (left a ++ sent_bytes e) (tokens b)

  -- after the bytes `start`, it has spelled a prefix of this
  abbrev pub Front : S → List Told → Type 0
  Front a told = IsFrontOf (joined_sources (tokens a)) (start ++ encode_utf8_all (characters told))

  grows : (t more : List Told) (a : S) → Front a t → Front a (t ++ more)
  grows t more a h = (
    h.0 ++ encode_utf8_all (characters more),
    bytes-append start t more ∙ ap (λ l. l ++ encode_utf8_all (characters more)) h.1
        ∙ append_assoc (joined_sources (tokens a)) h.0 (encode_utf8_all (characters more)),
  )

  begins : (t more : List Told) (a : S) → After tokens left start a t → Front a (t ++ more)
  begins t more a h = grows t more a (left a, sym h)

  refused : (t : List Told) (a : S) (e : Sent) (r : Refusal) (b : S) → IsSent e → After tokens left start a t
      → Refuses a e r b → Front b (t ++ told_of e)
  refused t a e r b text h front = (
    front.0,
    bytes-append start t (told_of e) ∙ ap (λ l. (start ++ encode_utf8_all (characters t)) ++ l) (told_bytes e text)
        ∙ ap (λ l. l ++ sent_bytes e) (sym h)
        ∙ append_assoc (joined_sources (tokens a)) (left a) (sent_bytes e)
        ∙ front.1,
  )

  -- reads into a new decoder over it stopped
  pub halted : {D : Type 0} (inner : D → S) (held : D → List ℕ) (failed : D → Bool) (ends : D → Refusal → Type 0)
      (sink : S) (d : D) (max_reads : ℕ) (these : List OneRead) (r : Refusal) (handed : Option D)
      → inner d ≡ sink → held d ≡ [] → failed d ≡ false → After tokens left start sink []
      → Halts (DecoderTakes utf8 (Takes tokens left) inner held failed)
      (λ d e r n. (failed n ≡ true) × (((failed d ≡ true) × (r ≡ Failed) × (inner n ≡ inner d))
      ⊎ ((failed d ≡ false) × DecodingStops utf8 (Takes tokens left) Refuses (inner d) (held d) e r (inner n))))
      ends max_reads d these r handed
      → IfSome handed (λ n. Front (inner n) (due (given these)))
  halted inner held failed = sink_halted utf8 is_utf8 (Takes tokens left) Refuses (After tokens left start) Front
      (goes_on tokens left start) begins grows refused inner held failed
