-- Texts that a decoder made, and short ones.
use Rattle.std.proofs.Common.{◌≡◌, ◌≤◌, ℕ, List, [], length, refl, sym, subst, inl, inr, ⊎_elim, arith}
use Rattle.std.proofs.lemmas.Bool.{cases_lt}
use Rattle.tendril_errors.specs.declared.limits.TheConstants.{MAX_LEN}
use Rattle.tendril_errors.specs.Outcomes.{LengthMust, MemoryMay, Refused}
use Rattle.tendril_errors.specs.declared.refusal.Refusal.{Refusal}
use Rattle.tendril_encoding.specs.Sends.{IsNew, IsSentIn, MayFail, IsShortOrNew, NewStops, NoMemory, text_told}
use Rattle.tendril_lossy.specs.Lossy.{Told}
use Rattle.tendril_text.proofs.Feeds.{Grows, Stops-here}
use Rattle.tendril_stream.specs.Decodings.{PieceMay}
use Rattle.tendril_stream.specs.Sinks.{Sent, Piece, Fault, IsSent, IsSentOf}
use Rattle.tendril_text.proofs.Decoding.{long-some}
use Rattle.tendril_text.specs.Decoding.{IsHandedOn}
use Rattle.tendril_text.specs.TextLists.{no_text}
use Rattle.tendril_text.specs.Texts.{Text}

pub no_memory_grows : Grows NoMemory
no_memory_grows x y r h = h

pub new_in : (e : Sent) → IsNew e → IsShortOrNew e
new_in e h piece = inr (inl h)

-- what may be sent of a piece of at most 8 bytes may be sent of any piece
handed : (short piece t : Text) → length short.bytes ≤ 8 → IsHandedOn short t → IsHandedOn piece t
handed short piece t few h =
    let len : length t.bytes ≤ 8 = ⊎_elim (λ long. absurd (omega (arith, h.within long, few, long))) (λ le. le)
    (cases_lt 8 (length t.bytes)) in
    record {
      some = h.some;
      text = h.text;
      within = λ long. absurd (omega (arith, len, long));
      part = (λ long. absurd (omega (arith, len, long)), h.part.1);
    }

pub few_in : (short : Text) → length short.bytes ≤ 8 → (e : Sent) → IsSentOf short e → IsShortOrNew e
few_in short few (Piece t) h piece = inl (handed short piece t few h)
few_in short few (Fault words) h piece = inl tt

pub short_in : (e : Sent) → IsSentOf no_text e → IsShortOrNew e
short_in e h = few_in no_text (omega arith) e h

-- no text of a short piece shares a block
pub no_count : (told : List Told) (r : Refusal) → PieceMay no_text told r → NoMemory told r
no_count told r h = absurd (omega (arith, long-some [] r h))

-- no text could be made
pub text_refused : {S : Type 0} (takes : S → Sent → S → Type 0) (refuses : S → Sent → Refusal → S → Type 0) (a : S)
    (text : List ℕ) (r : Refusal) → length text ≤ MAX_LEN
    → Refused (LengthMust (length text)) (MemoryMay (length text)) r
    → NewStops takes refuses a (text_told text) r a
text_refused takes refuses a text r small (inl (inl h)) = absurd (h.0 small)
text_refused takes refuses a text r small (inl (inr h)) = absurd h.1
text_refused takes refuses a text r small (inr h) =
    Stops-here takes refuses IsShortOrNew NoMemory a (text_told text) r a (inl (h.1.0, refl))

-- what may be sent of a new text of at most 8 bytes may be sent of any piece
pub known_new : (t : Text) → length t.bytes ≤ 8 → t.copied ≡ length t.bytes → (e : Sent) → IsSentIn t e → IsShortOrNew e
known_new t few copied e (inl h) = few_in t few e h
known_new t few copied e (inr (inl h)) = new_in e h
known_new t few copied e (inr (inr h)) =
    let is : IsSent (Piece t) = subst IsSent h.0 h.1 in
    new_in e (subst IsNew (sym h.0) (is.0, is.1, copied))

pub few_memory : (t : Text) → length t.bytes ≤ 8 → (told : List Told) (r : Refusal) → MayFail t told r → NoMemory told r
few_memory t few told r (inl h) = h
few_memory t few told r (inr h) = absurd (omega (arith, few, long-some t.bytes r h))
