-- No error that reading itself returns is one that a decoder returns.
use Rattle.std.proofs.Common.{◌≡◌, ℕ, ◌⊎◌, Bool, true, false, List, [], ◌∷◌, sym, ap, ◌∙◌, ⊎_elim, true≢false, inl, inr}
use Rattle.std.proofs.Common.{refl}
use Rattle.std.specs.List.{FoldsTo}
use Rattle.tendril_text.specs.Texts.{Text}
use Rattle.tendril_errors.specs.declared.refusal.Refusal.{Refusal}
use Rattle.tendril_errors.specs.declared.refusal.Refusal.TheVariants.{Count, Failed, Io, Memory, SinkRefused}
use Rattle.tendril_errors.specs.declared.refusal.Refusal.TheVariants.{TooManyReads}
use Rattle.tendril_lossy.specs.Lossy.{Told}
use Rattle.tendril_stream.specs.Decoders.{DecodingStops, EndStops}
use Rattle.tendril_stream.specs.Decodings.{PieceMay, utf8}
use Rattle.tendril_stream.specs.Readings.{IsOfReading}
use Rattle.tendril_stream.specs.Sinks.{Sent, Piece, IsSentOf, IsStop}
use Rattle.tendril_text.specs.TextLists.{no_text}

abbrev of_reading : Refusal → Bool
of_reading Memory = true
of_reading TooManyReads = true
of_reading Io = true
of_reading other = false

is_of_reading : (r : Refusal) → IsOfReading r → of_reading r ≡ true
is_of_reading r (inl e) = ap of_reading e
is_of_reading r (inr (inl e)) = ap of_reading e
is_of_reading r (inr (inr e)) = ap of_reading e

clash : (r q : Refusal) → of_reading q ≡ false → r ≡ q → IsOfReading r → ⊥
clash r q f e h = true≢false (sym (is_of_reading r h) ∙ ap of_reading e ∙ f)

stop_clash : {S : Type 0} (refuses : S → Sent → Refusal → S → Type 0) (piece : Text) (mid new : S) (due : List Told)
    (r : Refusal) → IsStop refuses (IsSentOf piece) (PieceMay piece) mid due r new → IsOfReading r → ⊥
stop_clash refuses piece mid new due r h o =
    ⊎_elim (λ k. clash r Count refl k.0.0 o) (λ k. clash r SinkRefused refl k.refused.0 o) h

pub process_clash : {S : Type 0} (takes : S → Sent → S → Type 0) (refuses : S → Sent → Refusal → S → Type 0) (a b : S)
    (f : Bool) (k : List ℕ) (x : Text) (r : Refusal)
    → ((f ≡ true) × (r ≡ Failed) × (b ≡ a)) ⊎ ((f ≡ false) × DecodingStops utf8 takes refuses a k (Piece x) r b)
    → IsOfReading r → ⊥
process_clash takes refuses a b f k x r h o =
    ⊎_elim (λ w. clash r Failed refl w.1 o) (λ w. stop_clash refuses x w.1.mid b w.1.rest r w.1.stop o) h

pub end_clash : {S : Type 0} (takes : S → Sent → S → Type 0) (refuses : S → Sent → Refusal → S → Type 0)
    (ends : S → Refusal → Type 0) (a : S) (f : Bool) (k : List ℕ) (r : Refusal)
    → ((f ≡ true) × (r ≡ Failed)) ⊎ ((f ≡ false) × EndStops utf8 takes refuses ends a k r) → IsOfReading r → ⊥
end_clash takes refuses ends a f k r h o = ⊎_elim
    (λ w. clash r Failed refl w.1 o)
    (λ w. ⊎_elim (λ v. stop_clash refuses no_text v.1.mid v.0 v.1.rest r v.1.stop o)
    (λ v. clash r SinkRefused refl v.2 o) w.1)
    h

-- a decoder that accepted each piece hasn't failed
pub unfailed : {D : Type 0} (failed : D → Bool) (P : D → Text → D → Type 0) (pieces : List Text) (d last : D)
    → failed d ≡ false → FoldsTo (λ s x t. (failed s ≡ false) × (failed t ≡ false) × P s x t) d pieces last
    → failed last ≡ false
unfailed failed P [] d last e h = ap failed (sym h) ∙ e
unfailed failed P (x ∷ pieces) d last e h = unfailed failed P pieces h.0 last h.1.1 h.2
