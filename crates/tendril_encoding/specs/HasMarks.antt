-- Whether something that was sent is an error, and the text of the rest.
use Rattle.std.proofs.Common.{◌≡◌, ℕ, Bool, true, false, List, [], ◌∷◌, ◌++◌, map, refl, sym, ap, ap₂, ◌∙◌}
use Rattle.std.proofs.lemmas.Str.{encodes-append}
use Rattle.std.specs.Prelude.{◌||◌, chars, encode_utf8_all}
use Rattle.tendril_lossy.proofs.Told.{characters-append}
use Rattle.tendril_lossy.specs.Lossy.{Told, Char, Mark, characters, has_marks}
use Rattle.tendril_stream.specs.SentBytes.{sent_bytes, told_bytes}
use Rattle.tendril_stream.specs.Sinks.{Sent, Piece, Fault, IsSent, told_of}

abbrev pub is_error : Sent → Bool
is_error (Piece t) = false
is_error (Fault words) = true

marks-append : (t u : List Told) → has_marks (t ++ u) ≡ (has_marks t || has_marks u)
marks-append [] u = refl
marks-append (Char c ∷ t) u = marks-append t u
marks-append (Mark words ∷ t) u = refl

marks-chars : (cs : List ℕ) → has_marks (map Char cs) ≡ false
marks-chars [] = refl
marks-chars (c ∷ cs) = marks-chars cs

marks_of : (e : Sent) → has_marks (told_of e) ≡ is_error e
marks_of (Piece t) = marks-chars (chars t.bytes)
marks_of (Fault words) = refl

pub whole_on : (old new : List ℕ) (m n : Bool) (e : Sent) (t : List Told) → IsSent e
    → old ≡ encode_utf8_all (characters t) → m ≡ has_marks t → new ≡ old ++ sent_bytes e → n ≡ (m || is_error e)
    → (new ≡ encode_utf8_all (characters (t ++ told_of e))) × (n ≡ has_marks (t ++ told_of e))
whole_on old new m n e t is h k c d = (
  c ∙ ap₂ (λ x y. x ++ y) h (sym (told_bytes e is))
      ∙ sym (ap encode_utf8_all (characters-append t (told_of e))
      ∙ encodes-append (characters t) (characters (told_of e))),
  d ∙ ap₂ (λ x y. x || y) k (sym (marks_of e)) ∙ sym (marks-append t (told_of e)),
)
