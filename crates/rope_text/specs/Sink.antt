-- A rope as a sink.
use Rattle.std.specs.Prelude.{◌≡◌, ◌+◌, List, [], ◌∷◌, ◌++◌, length, map, chars, IsUtf8}
use Rattle.std.proofs.Common.{sym, ap, ◌∙◌, append-nil}
use Rattle.std.proofs.lemmas.Str.{IsUtf8-append, chars-append}
use Rattle.tendril_errors.specs.declared.refusal.Refusal.{Refusal}
use Rattle.tendril_errors.specs.Outcomes.{Refused}
use Rattle.tendril_lossy.proofs.Told.{characters-append, characters-map}
use Rattle.tendril_lossy.specs.Lossy.{Told, Char, Mark, characters}
use Rattle.rope_text.specs.Growth.{IsLonger, RoomMay, TotalMust}
use Rattle.rope_text.specs.Ropes.{RopeText}
use Rattle.tendril_stream.specs.Sinks.{Sent, Piece, Fault, IsSent, told_of}
use Rattle.tendril_text.specs.TextLists.{unless_empty}

-- a text is appended to the rope, and an error in the stream changes nothing
abbrev pub TakesSent : RopeText → Sent → RopeText → Type 0
TakesSent old (Piece t) new = IsLonger old t.bytes (unless_empty t) new
TakesSent old (Fault words) new = new ≡ old

-- for a text, the errors of its push are returned, and nothing changes; for an error in the stream, none is
abbrev pub RefusesSent : RopeText → Sent → Refusal → RopeText → Type 0
RefusesSent old (Piece t) r new =
    Refused (TotalMust (length old.bytes + length t.bytes)) (RoomMay (length t.bytes)) r × (new ≡ old)
RefusesSent old (Fault words) r new = ⊥

-- a rope has the characters that it was sent
abbrev pub HasCharacters : RopeText → List Told → Type 0
HasCharacters rope told = IsUtf8 rope.bytes × (chars rope.bytes ≡ characters told)

pub goes_on_by : (told : List Told) (old : RopeText) (e : Sent) (new : RopeText)
    → IsSent e → HasCharacters old told → TakesSent old e new → HasCharacters new (told ++ told_of e)
goes_on_by told old (Piece t) new sent h takes =
    let valid : IsUtf8 (old.bytes ++ t.bytes) = IsUtf8-append old.bytes t.bytes h.0 sent.1 in (
      rw takes.bytes valid,
      ap chars takes.bytes ∙ chars-append old.bytes t.bytes h.0 ∙ ap (λ l. l ++ chars t.bytes) h.1
          ∙ ap (λ l. characters told ++ l) (sym (characters-map (chars t.bytes)))
          ∙ sym (characters-append told (map Char (chars t.bytes))),
    )
goes_on_by told old (Fault words) new sent h takes =
    rw takes (h.0, h.1 ∙ sym (append-nil (characters told)) ∙ sym (characters-append told (Mark words ∷ [])))
