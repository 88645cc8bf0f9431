-- Decoding in any encoding doesn't depend on where a stream is cut.
use Rattle.std.proofs.Common.{◌≡◌, ℕ, List, [], ◌∷◌, ◌++◌, refl, sym, ap, ◌∙◌, append_assoc}
use Rattle.std.specs.Prelude.{Option, Some, None}
use Rattle.tendril_decode.proofs.Machines.{state-append, told-append}
use Rattle.tendril_encoding.specs.First.{after_mark}
use Rattle.tendril_encoding.specs.States.{any}
use Rattle.tendril_encoding.specs.Known.{IsStartKnown, after_known, out_known, slices}
use Rattle.tendril_encoding.specs.Marks.{seen_bytes, sniffed}
use Rattle.tendril_encoding.specs.Sends.{sent_in}
use Rattle.tendril_encoding.specs.States.{after_sniff, after_state, decided, decoding_from, known_after, out_sniff}
use Rattle.tendril_encoding.specs.States.{out_state}
use Rattle.tendril_encoding.specs.declared.kept.Sniffing.{Sniffing}
use Rattle.tendril_encoding.specs.declared.kept.State.{State}
use Rattle.tendril_encoding.specs.declared.known.Chosen.{Chosen}
use Rattle.tendril_encoding.specs.declared.known.Chosen.TheVariants.{Pieces, Slices}
use Rattle.tendril_encoding.specs.declared.known.Known.{Known}
use Rattle.tendril_encoding.specs.declared.mark.Marks.{Marks}
use Rattle.tendril_encoding.specs.declared.mark.Seen.{Seen}
use Rattle.tendril_encoding.specs.declared.mark.Sniffed.{Sniffed}
use Rattle.tendril_encoding.specs.declared.mark.Sniffed.TheVariants.{Waits, Marked, Plain}
use Rattle.tendril_lossy.specs.Lossy.{Told}
use Rattle.tendril_stream.specs.Decodings.{IsDecoding}
use Rattle.tendril_stream.specs.Utf8Laws.{is_utf8}

pub out_known-append : (c : Chosen) (a b : List ℕ) → out_known c (a ++ b)
    ≡ out_known c a ++ out_known (after_known c a) b
out_known-append (Pieces k) a b = is_utf8.out_both k a b
out_known-append (Slices s) a b = told-append slices s a b

pub after_known-append : (c : Chosen) (a b : List ℕ) → after_known c (a ++ b) ≡ after_known (after_known c a) b
after_known-append (Pieces k) a b = ap Pieces (is_utf8.after_both k a b)
after_known-append (Slices s) a b = ap Slices (state-append slices s a b)

pub known_after-append : (k : Known) (a b : List ℕ) → known_after k (a ++ b) ≡ known_after (known_after k a) b
known_after-append k a b = ap (λ c. record { encoding = k.encoding; chosen = c }) (after_known-append k.chosen a b)

-- the output of bytes after a state
abbrev out_of : State → List ℕ → List Told
out_of s p = out_state s.known s.sniffing p

abbrev after_of : State → List ℕ → State
after_of s p = after_state s.known s.sniffing p

module _ (marks : Marks) (k : Known) where
  -- one byte more, by what it shows
  abbrev pub out_by : Seen → ℕ → List ℕ → Sniffed → List Told
  out_by seen b p (Waits more) = out_sniff marks k more p
  out_by seen b p (Marked mark) = out_known (after_mark mark).chosen p
  out_by seen b p Plain = out_known k.chosen (seen_bytes seen ++ (b ∷ p))

  abbrev pub after_by : Seen → ℕ → List ℕ → Sniffed → State
  after_by seen b p (Waits more) = after_sniff marks k more p
  after_by seen b p (Marked mark) = decided (known_after (after_mark mark) p)
  after_by seen b p Plain = decided (known_after k (seen_bytes seen ++ (b ∷ p)))

  pub out_is : (seen : Seen) (b : ℕ) (p : List ℕ) → out_sniff marks k seen (b ∷ p)
      ≡ out_by seen b p (sniffed marks seen b)
  out_is seen b p = by (sniffed marks seen b)
    where
      by : (s : Sniffed) → (elim s [
        | Waits more ↦ out_sniff marks k more p
        | Marked mark ↦ out_known (after_mark mark).chosen p
        | Plain ↦ out_known k.chosen (seen_bytes seen ++ (b ∷ p))
      ]) ≡ out_by seen b p s
      by (Waits more) = refl
      by (Marked mark) = refl
      by Plain = refl

  pub after_is : (seen : Seen) (b : ℕ) (p : List ℕ)
      → after_sniff marks k seen (b ∷ p) ≡ after_by seen b p (sniffed marks seen b)
  after_is seen b p = by (sniffed marks seen b)
    where
      by : (s : Sniffed) → (elim s [
        | Waits more ↦ after_sniff marks k more p
        | Marked mark ↦ decided (known_after (after_mark mark) p)
        | Plain ↦ decided (known_after k (seen_bytes seen ++ (b ∷ p)))
      ]) ≡ after_by seen b p s
      by (Waits more) = refl
      by (Marked mark) = refl
      by Plain = refl

  out_by-append : (seen : Seen) (x : ℕ) (a b : List ℕ) (s : Sniffed)
      → ((more : Seen) → out_sniff marks k more (a ++ b) ≡ out_sniff marks k more a ++ out_of
      (after_sniff marks k more a) b)
      → out_by seen x (a ++ b) s ≡ out_by seen x a s ++ out_of (after_by seen x a s) b
  out_by-append seen x a b (Waits more) ih = ih more
  out_by-append seen x a b (Marked mark) ih = out_known-append (after_mark mark).chosen a b
  out_by-append seen x a b Plain ih =
      ap (out_known k.chosen) (sym (append_assoc (seen_bytes seen) (x ∷ a) b))
      ∙ out_known-append k.chosen (seen_bytes seen ++ (x ∷ a)) b

  after_by-append : (seen : Seen) (x : ℕ) (a b : List ℕ) (s : Sniffed)
      → ((more : Seen) → after_sniff marks k more (a ++ b) ≡ after_of (after_sniff marks k more a) b)
      → after_by seen x (a ++ b) s ≡ after_of (after_by seen x a s) b
  after_by-append seen x a b (Waits more) ih = ih more
  after_by-append seen x a b (Marked mark) ih = ap decided (known_after-append (after_mark mark) a b)
  after_by-append seen x a b Plain ih =
      ap (λ l. decided (known_after k l)) (sym (append_assoc (seen_bytes seen) (x ∷ a) b))
      ∙ ap decided (known_after-append k (seen_bytes seen ++ (x ∷ a)) b)

  out_sniff-append : (seen : Seen) (a b : List ℕ)
      → out_sniff marks k seen (a ++ b) ≡ out_sniff marks k seen a ++ out_of (after_sniff marks k seen a) b
  out_sniff-append seen [] b = refl
  out_sniff-append seen (x ∷ a) b =
      out_is seen x (a ++ b)
      ∙ out_by-append seen x a b (sniffed marks seen x) (λ more. out_sniff-append more a b)
      ∙ sym (ap (λ l. l ++ out_of (after_by seen x a (sniffed marks seen x)) b) (out_is seen x a))
      ∙ ap (λ s. out_sniff marks k seen (x ∷ a) ++ out_of s b) (sym (after_is seen x a))

  after_sniff-append : (seen : Seen) (a b : List ℕ)
      → after_sniff marks k seen (a ++ b) ≡ after_of (after_sniff marks k seen a) b
  after_sniff-append seen [] b = refl
  after_sniff-append seen (x ∷ a) b =
      after_is seen x (a ++ b)
      ∙ after_by-append seen x a b (sniffed marks seen x) (λ more. after_sniff-append more a b)
      ∙ ap (λ s. after_of s b) (sym (after_is seen x a))

out_state-append : (k : Known) (o : Option Sniffing) (a b : List ℕ)
    → out_state k o (a ++ b) ≡ out_state k o a ++ out_of (after_state k o a) b
out_state-append k None a b = out_known-append k.chosen a b
out_state-append k (Some s) a b = out_sniff-append s.marks k s.seen a b

after_state-append : (k : Known) (o : Option Sniffing) (a b : List ℕ)
    → after_state k o (a ++ b) ≡ after_of (after_state k o a) b
after_state-append k None a b = ap decided (known_after-append k a b)
after_state-append k (Some s) a b = after_sniff-append s.marks k s.seen a b

-- a state at the start of a stream
abbrev pub IsStreamStart : State → Type 0
IsStreamStart s = IsStartKnown s.known.chosen

pub out_known-none : (c : Chosen) → IsStartKnown c → out_known c [] ≡ []
out_known-none (Pieces k) h = ap (λ l. out_known (Pieces l) []) h ∙ is_utf8.out_none
out_known-none (Slices s) h = refl

pub after_known-none : (c : Chosen) → IsStartKnown c → after_known c [] ≡ c
after_known-none (Pieces k) h =
    ap (λ l. after_known (Pieces l) []) h ∙ ap Pieces is_utf8.after_none ∙ ap Pieces (sym h)
after_known-none (Slices s) h = refl

out_state-none : (k : Known) (o : Option Sniffing) → IsStartKnown k.chosen → out_state k o [] ≡ []
out_state-none k None h = out_known-none k.chosen h
out_state-none k (Some s) h = refl

after_state-none : (k : Known) (o : Option Sniffing) → IsStartKnown k.chosen
    → after_state k o [] ≡ record { known = k; sniffing = o }
after_state-none k None h = ap (λ c. decided (record { encoding = k.encoding; chosen = c }))
    (after_known-none k.chosen h)
after_state-none k (Some s) h = refl

pub is_decoding_from : (start : State) → IsStreamStart start → IsDecoding (decoding_from start)
is_decoding_from start h = record {
  out_none = out_state-none start.known start.sniffing h;
  after_none = after_state-none start.known start.sniffing h;
  out_both = λ s a b. out_state-append s.known s.sniffing a b;
  after_both = λ s a b. after_state-append s.known s.sniffing a b;
  whole = λ b. refl;
  sends = λ s piece e h. sent_in piece e h.0;
}

pub is_any : IsDecoding any
is_any = is_decoding_from any.start refl
