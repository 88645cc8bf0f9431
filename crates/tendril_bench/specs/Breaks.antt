-- Whether a stream had an error.
use Rattle.std.proofs.Common.{◌≡◌, Bool, true, false, List, [], ◌∷◌, ◌++◌, map, ℕ, refl, sym, ◌∙◌}
use Rattle.std.specs.Str.{chars}
use Rattle.tendril.specs.Lossy.{Told, Char, Mark, has_marks}
use Rattle.tendril.specs.Sinks.{Sent, Piece, Fault, told_of}

-- the sink's value after a text, and after an error
abbrev pub is_broken : Bool → Sent → Bool
is_broken was (Piece t) = was
is_broken was (Fault words) = true

plain : (cs : List ℕ) → has_marks (map Char cs) ≡ false
plain [] = refl
plain (c ∷ cs) = plain cs

behind_text : (told : List Told) (cs : List ℕ) → has_marks (told ++ map Char cs) ≡ has_marks told
behind_text [] cs = plain cs
behind_text (Char c ∷ told) cs = behind_text told cs
behind_text (Mark words ∷ told) cs = refl

behind_mark : (told : List Told) (words : List ℕ) → has_marks (told ++ Mark words ∷ []) ≡ true
behind_mark [] words = refl
behind_mark (Char c ∷ told) words = behind_mark told words
behind_mark (Mark other ∷ told) words = refl

pub marked_after : (told : List Told) (was is : Bool) (e : Sent) → was ≡ has_marks told → is ≡ is_broken was e
    → is ≡ has_marks (told ++ told_of e)
marked_after told was is (Piece t) h call = call ∙ h ∙ sym (behind_text told (chars t.bytes))
marked_after told was is (Fault words) h call = call ∙ sym (behind_mark told words)
