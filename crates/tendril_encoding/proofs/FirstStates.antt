-- What a decoder of each encoding begins with.
use Rattle.std.proofs.Common.{◌≡◌, ℕ, true, List, refl, sym, subst, true≢false}
use Rattle.std.specs.Prelude.{Option, Some, None}
use Rattle.tendril_encoding.proofs.MarkLaws.{marks_decide}
use Rattle.tendril_encoding.proofs.Scalars.{IsFitChosen}
use Rattle.tendril_encoding.specs.Choices.{start_for, start_in}
use Rattle.tendril_encoding.specs.First.{first_chosen}
use Rattle.tendril_encoding.specs.Known.{passes_known}
use Rattle.tendril_encoding.specs.Laws.{begins_with_mark, decoded_after}
use Rattle.tendril_encoding.specs.Marks.{marks_for}
use Rattle.tendril_encoding.specs.States.{decoding_from}
use Rattle.tendril_encoding.specs.declared.known.Known.{Known}
use Rattle.tendril_encoding.specs.declared.mark.BomHandling.{BomHandling}
use Rattle.tendril_encoding.specs.declared.mark.Mark.{Mark}
use Rattle.tendril_encoding.specs.declared.mark.Marks.{Marks}
use Rattle.tendril_labels.specs.Encodings.{is_compatible}
use Rattle.tendril_labels.specs.declared.encoding.Encoding.{Encoding}
use Rattle.tendril_labels.specs.declared.encoding.Encoding.TheVariants.{Iso2022Jp, Replacement, Utf16Be, Utf16Le}
use Rattle.tendril_lossy.specs.Lossy.{Told}

-- where an encoding is compatible with ASCII, its decoder passes ASCII bytes on at the start
pub first_passes : (e : Encoding) → is_compatible e ≡ true → passes_known (first_chosen e) ≡ true
first_passes Iso2022Jp h = absurd (true≢false (sym h))
first_passes Replacement h = absurd (true≢false (sym h))
first_passes Utf16Be h = absurd (true≢false (sym h))
first_passes Utf16Le h = absurd (true≢false (sym h))
first_passes _ h = refl

-- and it is in a state that occurs
pub first_fits : (e : Encoding) → IsFitChosen (first_chosen e)
first_fits Utf16Be = (refl, tt)
first_fits Utf16Le = (refl, tt)
first_fits _ = tt

-- the mark that a stream begins with, if marks are looked for
abbrev pub mark_at : Option Marks → List ℕ → Option Mark
mark_at None b = None
mark_at (Some marks) b = begins_with_mark marks b

decoded_in : (looked : Option Marks) (k : Known) (b : List ℕ)
    → (decoding_from (start_in looked k)).decoded b ≡ decoded_after k.chosen b (mark_at looked b)
decoded_in None k b = refl
decoded_in (Some marks) k b = marks_decide marks k b

-- what holds of the decoding after every mark holds of that from the start
pub from_start : (e : Encoding) (bom : BomHandling) (b : List ℕ) (P : List Told → Type 0)
    → P (decoded_after (first_chosen e) b (mark_at (marks_for e bom) b))
    → P ((decoding_from (start_for e bom)).decoded b)
from_start e bom b P h =
    subst P (sym (decoded_in (marks_for e bom) (record { encoding = e; chosen = first_chosen e }) b)) h
