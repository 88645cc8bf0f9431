-- Laws of decoding in any encoding.
use Rattle.std.specs.List.{starts_with}
use Rattle.std.specs.Prelude.{◌≡◌, ℕ, Bool, ◌&&◌, List, [], ◌∷◌, ◌++◌, length, drop, nat_eq, Option, Some, None}
use Rattle.std.specs.Prelude.{if◌then◌else◌}
use Rattle.tendril_encoding.specs.First.{after_mark}
use Rattle.tendril_encoding.specs.Known.{after_known, ends_known, out_known}
use Rattle.tendril_encoding.specs.StateLaws.{IsStreamStart}
use Rattle.tendril_encoding.specs.States.{decoding_from, sniffing_for}
use Rattle.tendril_encoding.specs.declared.kept.State.{State}
use Rattle.tendril_encoding.specs.declared.known.Chosen.{Chosen}
use Rattle.tendril_encoding.specs.declared.known.Known.{Known}
use Rattle.tendril_encoding.specs.declared.mark.Mark.{Mark}
use Rattle.tendril_encoding.specs.declared.mark.Mark.TheVariants.{OfUtf8, OfUtf16Le, OfUtf16Be}
use Rattle.tendril_encoding.specs.declared.mark.Marks.{Marks}
use Rattle.tendril_encoding.specs.declared.mark.Seen.TheVariants.{Nothing}
use Rattle.tendril_lossy.specs.Lossy.{Told}
use Rattle.tendril_stream.specs.Compositions.{Composes}
use Rattle.tendril_stream.specs.Sinks.{Sent}

-- however a stream is cut, a decoder that starts in a state has decoded the joined bytes from that state
abbrev pub StartsCompose : {S O : Type 0} → (S → Sent → S → Type 0) → (S → O → Type 0) → (S → List Told → Type 0)
    → Type 0
StartsCompose takes finishes after =
    (start : State) → IsStreamStart start → Composes (decoding_from start) takes finishes after

-- the decoding of a whole stream in an encoding that is known
abbrev pub decoded_known : Chosen → List ℕ → List Told
decoded_known c b = out_known c b ++ ends_known (after_known c b)

-- the bytes of a byte order mark
abbrev pub mark_bytes : Mark → List ℕ
mark_bytes OfUtf8 = 0xEF ∷ 0xBB ∷ 0xBF ∷ []
mark_bytes OfUtf16Le = 0xFF ∷ 0xFE ∷ []
mark_bytes OfUtf16Be = 0xFE ∷ 0xFF ∷ []

-- whether a stream begins with a mark
abbrev has_mark : List ℕ → Mark → Bool
has_mark b mark = starts_with nat_eq b (mark_bytes mark)

-- the mark that a stream begins with, if it is looked for; no stream begins with two
abbrev pub begins_with_mark : Marks → List ℕ → Option Mark
begins_with_mark marks b =
    if marks.utf8 && has_mark b OfUtf8 then Some OfUtf8
    else (if marks.utf16_le && has_mark b OfUtf16Le then Some OfUtf16Le
    else (if marks.utf16_be && has_mark b OfUtf16Be then Some OfUtf16Be else None))

-- the decoding of a whole stream: after a mark, in the mark's encoding
abbrev pub decoded_after : Chosen → List ℕ → Option Mark → List Told
decoded_after c b None = decoded_known c b
decoded_after c b (Some mark) = decoded_known (after_mark mark).chosen (drop (length (mark_bytes mark)) b)

-- A decoder that looks for marks decodes a stream that begins with one in the mark's encoding, without the mark, and
-- any other stream in its own encoding.
abbrev pub MarksDecide : Type 0
MarksDecide = (marks : Marks) (k : Known) (b : List ℕ)
    → (decoding_from (sniffing_for marks k Nothing)).decoded b ≡ decoded_after k.chosen b (begins_with_mark marks b)
