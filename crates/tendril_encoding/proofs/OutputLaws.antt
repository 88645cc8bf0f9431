-- Laws of what streams in the encodings are decoded to.
use Rattle.std.proofs.Common.{◌≡◌, ◌≤◌, ◌*◌, ℕ, zero, Bool, true, false, List, [], ◌∷◌, ◌++◌, length, map, refl, sym}
use Rattle.std.proofs.Common.{ap}
use Rattle.std.proofs.Common.{ap₂, subst, ◌∙◌, arith, append-nil}
use Rattle.std.proofs.lemmas.Bool.Decides.{nat_tests}
use Rattle.std.proofs.lemmas.Str.{chars-IsAscii}
use Rattle.std.specs.Prelude.{◌&&◌, nat_eq, Option, Some, None, IsAscii, chars}
use Rattle.tendril_encoding.proofs.Ascii.{after_ascii, ends_ascii, out_ascii}
use Rattle.tendril_encoding.proofs.FirstStates.{first_fits, first_passes, from_start, mark_at}
use Rattle.tendril_encoding.proofs.Scalars.{scalars_after}
use Rattle.tendril_encoding.proofs.Shorts.{single_short}
use Rattle.tendril_encoding.proofs.UnitBytes.{told_units}
use Rattle.tendril_encoding.specs.First.{first_chosen}
use Rattle.tendril_encoding.specs.Known.{ends_known, passes_known}
use Rattle.tendril_encoding.specs.Laws.{begins_with_mark, decoded_after, decoded_known}
use Rattle.tendril_encoding.specs.Marks.{marks_for}
use Rattle.tendril_encoding.specs.Outputs.{DecodesToScalars, HasScalars, IsThreefold, DecodesAsciiToItself}
use Rattle.tendril_encoding.specs.Outputs.{UnitsSpellText}
use Rattle.tendril_encoding.specs.Outputs.{told_len, unit_bytes}
use Rattle.tendril_encoding.specs.declared.known.Chosen.{Chosen}
use Rattle.tendril_encoding.specs.declared.mark.BomHandling.TheVariants.{Keep}
use Rattle.tendril_encoding.specs.declared.mark.Marks.{Marks}
use Rattle.tendril_fmt.specs.Wtf8.{units}
use Rattle.tendril_labels.specs.declared.encoding.Encoding.TheVariants.{Utf16Le}
use Rattle.tendril_lossy.specs.Lossy.{Char}

-- ASCII bytes begin with no mark
and_false : (t : Bool) → (t && false) ≡ false
and_false true = refl
and_false false = refl

no_mark : (marks : Marks) (b : List ℕ) → IsAscii b → begins_with_mark marks b ≡ None
no_mark marks [] h = simp and_false
no_mark marks (x ∷ p) h =
    let low = h zero in
    let ef : nat_eq 0xEF x ≡ false = grind (arith, nat_tests) in
    let ff : nat_eq 0xFF x ≡ false = grind (arith, nat_tests) in
    let fe : nat_eq 0xFE x ≡ false = grind (arith, nat_tests) in
    simp (ef, ff, fe, and_false)

mark_none : (looked : Option Marks) (b : List ℕ) → IsAscii b → mark_at looked b ≡ None
mark_none None b h = refl
mark_none (Some marks) b h = no_mark marks b h

known_ascii : (c : Chosen) (b : List ℕ) → passes_known c ≡ true → IsAscii b → decoded_known c b ≡ map Char b
known_ascii c b passes h =
    ap₂ (λ t u. t ++ u) (out_ascii c b passes h ∙ ap (map Char) (chars-IsAscii b h))
    (ap ends_known (sym (after_ascii c b passes h)) ∙ ends_ascii c passes)
    ∙ append-nil (map Char b)

pub keeps_ascii : DecodesAsciiToItself
keeps_ascii e bom b compatible ascii =
    from_start e bom b (λ t. t ≡ map Char b)
    (ap (decoded_after (first_chosen e) b) (mark_none (marks_for e bom) b ascii)
    ∙ known_ascii (first_chosen e) b (first_passes e compatible) ascii)

pub decodes_to_scalars : DecodesToScalars
decodes_to_scalars e bom b bytes =
    from_start e bom b HasScalars (scalars_after (first_chosen e) b (mark_at (marks_for e bom) b) (first_fits e) bytes)

pub units_spell_text : UnitsSpellText
units_spell_text b text =
    from_start Utf16Le Keep (unit_bytes (units b)) (λ t. t ≡ map Char (chars b)) (told_units b text)

pub is_threefold : IsThreefold
is_threefold e one b first bytes =
    from_start e Keep b (λ t. told_len t ≤ 3 * length b)
    (subst (λ (d : Chosen). told_len (decoded_known d b) ≤ 3 * length b) (sym first) (single_short one b bytes))
