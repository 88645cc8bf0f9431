-- The text of a whole input.
use Rattle.std.specs.Prelude.{◌≡◌, ℕ, ◌⊎◌, Bool, false, List, [], encode_utf8_all, slice_range}
use Rattle.tendril_errors.specs.declared.refusal.Refusal.{Refusal}
use Rattle.tendril_errors.specs.declared.refusal.Refusal.TheVariants.{Memory, SinkRefused}
use Rattle.tendril_encoding.specs.Outgrown.{IsOutgrown}
use Rattle.tendril_encoding.specs.States.{decoding_from}
use Rattle.tendril_encoding.specs.declared.kept.State.{State}
use Rattle.tendril_encoding.specs.declared.whole.Whole.{Whole}
use Rattle.tendril_lossy.specs.Lossy.{characters, has_marks}
use Rattle.tendril_text.specs.Decoding.{LongPieceMay}

-- the text is the decoding of the input from a state, and `malformed` says whether that has an error
abbrev pub DecodesInput : State → List ℕ → List ℕ → Bool → Type 0
DecodesInput start input text malformed =
    (text ≡ encode_utf8_all (characters ((decoding_from start).decoded input)))
    × (malformed ≡ has_marks ((decoding_from start).decoded input))

abbrev pub IsNewWhole : Whole → Type 0
IsNewWhole w = (w.text.bytes ≡ []) × (w.malformed ≡ false)

-- The errors of decoding a whole input from a state: Memory; SinkRefused, only if the decoded text has more than 8
-- bytes; or Count, only for a part of the input in which a text of UTF-8, a broken sequence and more than 8 bytes
-- follow one another.
abbrev pub InputMay : State → List ℕ → Refusal → Type 0
InputMay start input r =
    (r ≡ Memory)
    ⊎ (((r ≡ SinkRefused) × IsOutgrown ((decoding_from start).decoded input))
    ⊎ ((at : ℕ) × (end : ℕ) × LongPieceMay (slice_range input at end) r))
