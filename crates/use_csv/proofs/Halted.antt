-- What a CSV reader behind a decoder has sent to its sink when reading stopped.
use Rattle.std.proofs.Common.{◌≡◌, ◌⊎◌, ℕ, Bool, true, false, List, [], ◌++◌, Option, sym, ap, ◌∙◌, append_assoc}
use Rattle.std.proofs.lemmas.Str.{encodes-append}
use Rattle.std.specs.Prelude.{IfSome, encode_utf8_all}
use Rattle.tendril.specs.Decoders.{DecodingStops}
use Rattle.tendril.specs.Decodings.{utf8}
use Rattle.tendril.specs.Fmt.Parts.{IsFrontOf}
use Rattle.tendril.specs.Lossy.{Told, characters, due}
use Rattle.tendril.specs.Proofs.Halted.{halted as sink_halted}
use Rattle.tendril.specs.Proofs.Refused.{DecoderTakes}
use Rattle.tendril.specs.Proofs.Told.{characters-append}
use Rattle.tendril.specs.Readings.{Halts}
use Rattle.tendril.specs.Reads.{OneRead, given}
use Rattle.tendril.specs.Refusal.{Refusal}
use Rattle.tendril.specs.Refusal.TheVariants.{Failed}
use Rattle.tendril.specs.SentBytes.{sent_bytes, told_bytes}
use Rattle.tendril.specs.Sinks.{Sent, IsSent, told_of}
use Rattle.tendril.specs.Utf8Laws.{is_utf8}
use Rattle.use_csv.proofs.Whole.{After, Takes, goes_on}
use Rattle.use_csv.specs.Follows.{unmarked-append}
use Rattle.use_csv.specs.Spelled.{unmarked}

-- the UTF-8 of what was sent, without quotes and line ends
abbrev plain : List Told → List ℕ
plain told = unmarked (encode_utf8_all (characters told))

-- `plain` of what was sent, and of more
told-append : (start : List ℕ) (t more : List Told) → start ++ plain (t ++ more) ≡ (start ++ plain t) ++ plain more
told-append start t more =
    ap (λ l. start ++ l)
    (ap unmarked (ap encode_utf8_all (characters-append t more) ∙ encodes-append (characters t) (characters more))
    ∙ unmarked-append (encode_utf8_all (characters t)) (encode_utf8_all (characters more)))
    ∙ sym (append_assoc start (plain t) (plain more))

-- over sinks that spell bytes, and have sent some of them to a sink of their own
module _ {S : Type 0} (spelled given_on : S → List ℕ) (start : List ℕ)
    (front : (a : S) → IsFrontOf (unmarked (given_on a)) (unmarked (spelled a))) where
  abbrev pub Refuses : S → Sent → Refusal → S → Type 0
  Refuses a e r b = IsFrontOf (unmarked (given_on b)) (unmarked (spelled a ++ sent_bytes e))

  -- after the bytes `start`, it has sent on a prefix of this
  abbrev pub Front : S → List Told → Type 0
  Front a told = IsFrontOf (unmarked (given_on a)) (start ++ plain told)

  grows : (t more : List Told) (a : S) → Front a t → Front a (t ++ more)
  grows t more a h = (
    h.0 ++ plain more,
    told-append start t more ∙ ap (λ l. l ++ plain more) h.1 ∙ append_assoc (unmarked (given_on a)) h.0 (plain more),
  )

  begins : (t more : List Told) (a : S) → After spelled start a t → Front a (t ++ more)
  begins t more a h = grows t more a ((front a).0, sym h ∙ (front a).1)

  refused : (t : List Told) (a : S) (e : Sent) (r : Refusal) (b : S) → IsSent e
      → After spelled start a t → Refuses a e r b → Front b (t ++ told_of e)
  refused t a e r b text h stopped = (
    stopped.0,
    told-append start t (told_of e)
        ∙ ap (λ l. (start ++ plain t) ++ unmarked l) (told_bytes e text)
        ∙ ap (λ l. l ++ unmarked (sent_bytes e)) (sym h)
        ∙ sym (unmarked-append (spelled a) (sent_bytes e))
        ∙ stopped.1,
  )

  -- reads into a new decoder over it stopped
  pub halted : {D : Type 0} (inner : D → S) (held : D → List ℕ) (failed : D → Bool) (ends : D → Refusal → Type 0)
      (sink : S) (d : D) (most : ℕ) (these : List OneRead) (r : Refusal) (handed : Option D)
      → inner d ≡ sink → held d ≡ [] → failed d ≡ false → After spelled start sink []
      → Halts (DecoderTakes utf8 (Takes spelled) inner held failed)
      (λ d e r n. (failed n ≡ true) × (((failed d ≡ true) × (r ≡ Failed) × (inner n ≡ inner d))
      ⊎ ((failed d ≡ false) × DecodingStops utf8 (Takes spelled) Refuses (inner d) (held d) e r (inner n))))
      ends most d these r handed
      → IfSome handed (λ n. Front (inner n) (due (given these)))
  halted inner held failed =
      sink_halted utf8 is_utf8 (Takes spelled) Refuses (After spelled start) Front (goes_on spelled start) begins grows
      refused inner held failed
