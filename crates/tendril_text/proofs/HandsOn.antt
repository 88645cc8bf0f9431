-- What lossy decoding passes to its closure, and for a completed sequence.
use Rattle.std.proofs.Common.{◌≡◌, ◌⊎◌, ℕ, ◌+◌, ◌-◌, ◌<◌, ◌≤◌, List, [], ◌∷◌, ◌++◌, length, take, drop, map, Option}
use Rattle.std.proofs.Common.{Result, Ok, Err, refl, sym, ap, ap₂, subst, ◌∙◌, arith, inl, inr, ⊎_elim}
use Rattle.std.proofs.Common.{length-append, length-take}
use Rattle.std.proofs.lemmas.List.Elements.{All-cons, All-head, All-nil, All-tail}
use Rattle.std.specs.List.{All, FoldsTo}
use Rattle.std.specs.Prelude.{MatchOption, MatchResult, chars, encode_utf8, flat_map}
use lib.Utf8.{encode}
use Rattle.tendril_errors.specs.declared.refusal.Refusal.{Refusal}
use Rattle.tendril_lossy.proofs.Told.{characters-append, characters-map}
use Rattle.tendril_lossy.specs.Completions.{BreaksAt, CompletesTo}
use Rattle.tendril_lossy.specs.Lossy.{Told, Char, IsIncomplete, closed_of, due_open}
use Rattle.tendril_storage.specs.Texts.{Text}
use Rattle.tendril_text.proofs.Passing.{passed}
use Rattle.tendril_text.specs.Decoding.{DecodesPiece, HandsOn, HandsOnUpTo, Hands, IsHandedOn}
use Rattle.tendril_text.specs.Receivers.{CallsWith, Fault, Feeds, Interrupts, IsSentOf, PassesUpTo, Piece, Sent}
use Rattle.tendril_text.specs.Receivers.{told}

-- A closure that received a decoding was called with its texts.
module _ {P : Type 0} (step : P → Text → Unit {0} → P → Type 0) where
  hands_on : (piece : Text) (p q : P) (sent : List Sent) → All (IsSentOf piece) sent
      → FoldsTo (CallsWith step) p sent q → HandsOn step p piece (told sent) q
  hands_on piece p q [] each same =
      record { texts = []; hands = same; each = All-nil (IsHandedOn piece); says = refl }
  hands_on piece p q (Piece t ∷ sent) each calls =
      let rest = hands_on piece calls.0 q sent (All-tail (IsSentOf piece) (Piece t) sent each) calls.2 in
      let cs = chars t.bytes in
      record {
        texts = t ∷ rest.texts;
        hands = (calls.0, calls.1, rest.hands);
        each = All-cons (IsHandedOn piece) t rest.texts (All-head (IsSentOf piece) (Piece t) sent each) rest.each;
        says = ap₂ (λ x y. x ++ y) (sym (characters-map cs)) rest.says
            ∙ sym (characters-append (map Char cs) (told sent));
      }
  hands_on piece p q (Fault words ∷ sent) each calls =
      let rest = hands_on piece calls.0 q sent (All-tail (IsSentOf piece) (Fault words) sent each) calls.2 in
      record {
        texts = rest.texts;
        hands = subst (λ s. Hands step s rest.texts q) calls.1 rest.hands;
        each = rest.each;
        says = rest.says;
      }

  handed : (piece : Text) (p q : P) (due : List Told) → Feeds (CallsWith step) (IsSentOf piece) p due q
      → HandsOn step p piece due q
  handed piece p q due h = subst (λ d. HandsOn step p piece d q) h.tells
      (hands_on piece p q h.sent h.each h.calls)

  pub decodes : (piece rest : Text) (p q : P) (answer : Option (List ℕ)) → PassesUpTo (CallsWith step) piece rest p q
      → IsIncomplete rest.bytes → MatchOption answer (rest.bytes ≡ []) (λ k. (k ≡ rest.bytes) × (0 < length k))
      → DecodesPiece step p piece answer q
  decodes piece rest p q answer so unfinished is =
      let all = passed (CallsWith step) piece rest p q so unfinished in record {
        handed = handed piece p q (due_open piece.bytes) all.0;
        keeps = subst (λ l. MatchOption answer (l ≡ []) (λ k. (k ≡ l) × (0 < length k))) all.1 is;
      }

  -- a closure returns no errors
  pub handed_up_to : (piece rest : Text) (p q : P) (r : Refusal)
      → Interrupts (CallsWith step) (λ p e r q. ⊥) piece rest p r q → HandsOnUpTo step p piece rest q
  handed_up_to piece rest p q r (inr h) = absurd (⊎_elim (λ k. k.0) (λ k. k.refused.1.1) h.stop)
  handed_up_to piece rest p q r (inl h) =
      let so = h.1 in record {
        at = so.at;
        end = so.end;
        part = so.part;
        before = so.before;
        items = so.items;
        keeps = so.keeps;
        handed = handed piece p q (flat_map closed_of so.before) so.feeds;
      }

-- a completed sequence, and the remaining input

pub rest_is : (k input front rest : List ℕ) → k ++ input ≡ front ++ rest → length k ≤ length front
    → rest ≡ drop (length front - length k) input → (length rest ≤ length input)
    × (drop (length input - length rest) input ≡ rest)
rest_is k input front rest all covers left =
    let lengths : length k + length input ≡ length front + length rest = sym (length-append k input) ∙ ap length all
    ∙ length-append front rest in
    let n : length input - length rest ≡ length front - length k = omega (arith, lengths, covers) in
    (omega (arith, lengths, covers), ap (λ j. drop j input) n ∙ sym left)

abbrev pub Answers : List ℕ → List ℕ → List ℕ → Result (List ℕ) (List ℕ) → Type 0
Answers k input rest found = MatchResult found (λ t. CompletesTo k input t rest) (λ b. BreaksAt k input b rest)

pub rest_of : (k input rest : List ℕ) (found : Result (List ℕ) (List ℕ)) → Answers k input rest found
    → (length rest ≤ length input) × (drop (length input - length rest) input ≡ rest)
rest_of k input rest (Ok t) h = rest_is k input t rest h.all h.covers h.left
rest_of k input rest (Err b) h = rest_is k input b rest h.all h.covers h.left

-- what is passed to the closure for it
abbrev pub Says : List ℕ → List ℕ → List ℕ → List ℕ → Type 0
Says k input rest text = (length text ≤ 4)
    × (CompletesTo k input text rest ⊎ ((text ≡ encode_utf8 0xFFFD) × (b : List ℕ) × BreaksAt k input b rest))

pub says_text : (k input rest text t : List ℕ) (found : Result (List ℕ) (List ℕ)) → Answers k input rest found
    → found ≡ Ok t → text ≡ t → Says k input rest text
says_text k input rest text t found h is same =
    let c = subst (Answers k input rest) is h in (
      omega (
        arith,
        ap length same,
        ap length c.longest.front,
        length-take (length t)
            (take 4 (k ++ input)),
        length-take 4 (k ++ input),
      ),
      inl (subst (λ l. CompletesTo k input l rest) (sym same) c),
    )

pub says_replacement : (k input rest text b : List ℕ) (found : Result (List ℕ) (List ℕ)) → Answers k input rest found
    → found ≡ Err b → text ≡ 0xEF ∷ 0xBF ∷ 0xBD ∷ [] → Says k input rest text
unfolding encode
says_replacement k input rest text b found h is same =
    (omega (arith, ap length same), inr (same, b, subst (Answers k input rest) is h))
