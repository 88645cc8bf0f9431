-- Decoding in an encoding that is known.
use Rattle.std.specs.Prelude.{◌≡◌, ◌==◌, ℕ, Bool, true, false, List, [], length, IsAscii}
use Rattle.tendril_errors.specs.declared.refusal.Refusal.{Refusal}
use Rattle.tendril_decode.specs.Any.{any_machine, is_fit}
use Rattle.tendril_decode.specs.Machines.{Machine, told_from, state_after, tells_nothing}
use Rattle.tendril_decode.specs.declared.any_decoder.AnyDecoder.{AnyDecoder}
use Rattle.tendril_decode.specs.declared.any_decoder.AnyDecoder.TheVariants.{Single, Big5, EucJp, EucKr, Gb18030}
use Rattle.tendril_decode.specs.declared.any_decoder.AnyDecoder.TheVariants.{Iso2022Jp, ShiftJis, Utf16Le}
use Rattle.tendril_decode.specs.declared.any_decoder.AnyDecoder.TheVariants.{Utf16Be, Replacement}
use Rattle.tendril_encoding.specs.Sends.{IsSentIn, MayFail}
use Rattle.tendril_encoding.specs.declared.known.Chosen.{Chosen}
use Rattle.tendril_encoding.specs.declared.known.Chosen.TheVariants.{Pieces, Slices}
use Rattle.tendril_lossy.specs.Lossy.{Told}
use Rattle.tendril_stream.specs.Decodings.{utf8}
use Rattle.tendril_stream.specs.Sinks.{Sent, Piece, Feeds, Stops}
use Rattle.tendril_text.specs.TextLists.{no_text}
use Rattle.tendril_text.specs.Texts.{Text}

-- the machine of the encodings that are decoded by slices; where it starts is the encoding
abbrev pub slices : Machine AnyDecoder
slices = any_machine (Replacement (record { seen = false }))

-- what bytes output after a state, the state after them, and what the end outputs
abbrev pub out_known : Chosen → List ℕ → List Told
out_known (Pieces k) p = utf8.out k p
out_known (Slices s) p = told_from slices s p

abbrev pub after_known : Chosen → List ℕ → Chosen
after_known (Pieces k) p = Pieces (utf8.after k p)
after_known (Slices s) p = Slices (state_after slices s p)

abbrev pub ends_known : Chosen → List Told
ends_known (Pieces k) = utf8.ends k
ends_known (Slices s) = slices.ends s

-- whether ASCII bytes are passed on as they are: where no bytes are kept, and the encoding decodes them to themselves
abbrev pub slices_pass : AnyDecoder → Bool
slices_pass (Single s) = true
slices_pass (Big5 s) = tells_nothing (slices.ends (Big5 s))
slices_pass (EucJp s) = tells_nothing (slices.ends (EucJp s))
slices_pass (EucKr s) = tells_nothing (slices.ends (EucKr s))
slices_pass (Gb18030 s) = tells_nothing (slices.ends (Gb18030 s))
slices_pass (Iso2022Jp s) = false
slices_pass (ShiftJis s) = tells_nothing (slices.ends (ShiftJis s))
slices_pass (Utf16Le s) = false
slices_pass (Utf16Be s) = false
slices_pass (Replacement s) = false

abbrev pub passes_known : Chosen → Bool
passes_known (Pieces k) = length k == 0
passes_known (Slices s) = slices_pass s

-- whether no byte of an unfinished sequence is kept: the end of the stream outputs nothing
abbrev pub keeps_nothing_known : Chosen → Bool
keeps_nothing_known (Pieces k) = length k == 0
keeps_nothing_known (Slices s) = tells_nothing (slices.ends s)

-- the states that occur
abbrev pub FitsKnown : Chosen → Type 0
FitsKnown (Pieces k) = Unit {0}
FitsKnown (Slices s) = is_fit s ≡ true

-- at the start of a stream in UTF-8 no bytes are kept
abbrev pub IsStartKnown : Chosen → Type 0
IsStartKnown (Pieces k) = k ≡ []
IsStartKnown (Slices s) = Unit {0}

-- what is sent of a piece: of one that is all ASCII, where that is passed on, the piece itself
abbrev pub FitKnown : Chosen → Text → Sent → Type 0
FitKnown c piece e = IsSentIn piece e × (passes_known c ≡ true → IsAscii piece.bytes → e ≡ Piece piece)

-- a decoder in this state has sent what a piece outputs, or a prefix of it when there was an error
abbrev pub FeedsKnown : {S : Type 0} → (S → Sent → S → Type 0) → S → Chosen → Text → S → Type 0
FeedsKnown takes old c piece new = Feeds takes (FitKnown c piece) old (out_known c piece.bytes) new

abbrev pub StopsInKnown : {S : Type 0} → (S → Sent → S → Type 0) → (S → Sent → Refusal → S → Type 0) → S → Chosen → Text
    → Refusal → S → Type 0
StopsInKnown takes refuses old c piece refusal new =
    Stops takes refuses (FitKnown c piece) (MayFail piece) old (out_known c piece.bytes) refusal new

-- the same of the end of the stream
abbrev pub EndsKnown : {S : Type 0} → (S → Sent → S → Type 0) → S → Chosen → S → Type 0
EndsKnown takes old c new = Feeds takes (IsSentIn no_text) old (ends_known c) new

abbrev pub StopsInEndKnown : {S : Type 0} → (S → Sent → S → Type 0) → (S → Sent → Refusal → S → Type 0) → S → Chosen
    → Refusal → S → Type 0
StopsInEndKnown takes refuses old c refusal new =
    Stops takes refuses (IsSentIn no_text) (MayFail no_text) old (ends_known c) refusal new
