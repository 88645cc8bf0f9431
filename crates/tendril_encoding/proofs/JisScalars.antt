-- All characters that bytes of ISO-2022-JP output are scalar values.
use Rattle.std.proofs.Common.{◌≡◌, ◌+◌, ◌-◌, ◌*◌, ◌<◌, ℕ, Bool, true, false, List, [], ◌∷◌, ◌++◌, refl, ap, ◌∙◌, arith}
use Rattle.std.proofs.Common.{lit<}
use Rattle.std.proofs.lemmas.Bool.{and_from, and_parts, cond_both}
use Rattle.std.proofs.lemmas.Bool.Decides.{nat_tests}
use Rattle.std.specs.Char.{IsScalar}
use Rattle.std.specs.Prelude.{IfSome, Option, Some, None, nat_le, nat_lt, ◌==◌, ◌&&◌, ◌||◌, if◌then◌else◌}
use Rattle.std.specs.Str.{all_scalars}
use Rattle.tendril_decode.proofs.Entries.{scalar-jis0208}
use Rattle.tendril_decode.specs.TwoBytes.{FitsFirst, FitsPair, ends_at, in_range, pair_of, tells_byte, tells_first}
use Rattle.tendril_decode.specs.TwoBytes.{tells_pair}
use Rattle.tendril_encoding.specs.Outputs.{HasScalars}
use Rattle.tendril_lossy.specs.Lossy.{Told, Char, characters}
use Rattle.tendril_decode.specs.Iso2022Jp.{ascii_code, ends_set, escaped, is_escape, is_escape_second, is_jis}
use Rattle.tendril_decode.specs.Iso2022Jp.{is_set_lead, jis_code, next_kept, next_plain, next_third}
use Rattle.tendril_decode.specs.Iso2022Jp.{next_trail, single_code, tells_kept as tells_set, tells_plain, tells_single}
use Rattle.tendril_decode.specs.Iso2022Jp.{tells_third, tells_trail}
use Rattle.tendril_decode.specs.declared.iso_2022_jp.Iso2022Jp.{Iso2022Jp}
use Rattle.tendril_decode.specs.declared.iso_2022_jp.Kept.{Kept as JisKept}
use Rattle.tendril_decode.specs.declared.iso_2022_jp.Kept.TheVariants.{Nothing as jis_nothing, Lead as jis_lead}
use Rattle.tendril_decode.specs.declared.iso_2022_jp.Kept.TheVariants.{Escape, EscapeAnd, Owed}
use Rattle.tendril_decode.specs.declared.iso_2022_jp.Set.{Set}
use Rattle.tendril_decode.specs.declared.iso_2022_jp.Set.TheVariants.{Ascii, Roman, Katakana, Jis0208}
use Rattle.tendril_encoding.proofs.ManyBytes.{entry_scalars, index_scalar, scalar_told, scalars_both}

-- what is owed is a scalar value
abbrev pub IsFitJis : JisKept → Type 0
IsFitJis jis_nothing = Unit {0}
IsFitJis (jis_lead l) = Unit {0}
IsFitJis Escape = Unit {0}
IsFitJis (EscapeAnd a) = Unit {0}
IsFitJis (Owed c) = IsScalar c

abbrev IsScalarIn : Option ℕ → Type 0
IsScalarIn o = IfSome o IsScalar

plain_ascii : (b : ℕ) → (nat_le 0x80 b || (b == 0x0E || b == 0x0F)) ≡ false → IsScalar b
plain_ascii b h = grind (arith, nat_tests)

ascii_code_scalar : (b : ℕ) → IsScalarIn (ascii_code b)
ascii_code_scalar b =
    cond_both (nat_le 0x80 b || (b == 0x0E || b == 0x0F)) _ _ IsScalarIn (λ none. tt) (plain_ascii b)

halfwidth_scalar : (b : ℕ) → in_range 0x21 0x5F b ≡ true → IsScalar (0xFF61 + (b - 0x21))
halfwidth_scalar b h = grind (arith, nat_tests)

single_scalar : (set : Set) (b : ℕ) → IsScalarIn (single_code set b)
single_scalar Ascii b = ascii_code_scalar b
single_scalar Roman b =
    cond_both (b == 0x5C) _ _ IsScalarIn (λ yen. refl)
    (λ other. cond_both (b == 0x7E) _ _ IsScalarIn (λ overline. refl) (λ ascii. ascii_code_scalar b))
single_scalar Katakana b = cond_both (in_range 0x21 0x5F b) _ _ IsScalarIn (halfwidth_scalar b) (λ none. tt)
single_scalar Jis0208 b = tt

code_told : (o : Option ℕ) → IsScalarIn o → HasScalars (tells_single o)
code_told None h = refl
code_told (Some c) h = scalar_told c h

plain_scalars : (set : Set) (b : ℕ) → HasScalars (tells_plain set b)
plain_scalars set b =
    cond_both (is_escape b || is_set_lead set b) _ _ HasScalars (λ silent. refl)
    (λ other. code_told (single_code set b) (single_scalar set b))

jis_code_scalar : (l b : ℕ) → IsScalar (jis_code l b)
unfolding jis_code
jis_code_scalar l b = index_scalar (is_jis b) _ (scalar-jis0208 ((l - 0x21) * 94 + (b - 0x21)))

trail_scalars : (l b : ℕ) → HasScalars (tells_trail l b)
trail_scalars l b = entry_scalars (jis_code l b) (jis_code_scalar l b)

third_scalars : (set : Set) (fresh : Bool) (o : Option Set) (a b : ℕ) → HasScalars (tells_third set fresh o a b)
third_scalars set fresh None a b =
    cond_both (is_set_lead set a) _ _ HasScalars (λ lead. trail_scalars a b)
    (λ other. scalars_both (tells_plain set a) (tells_plain set b) (plain_scalars set a) (plain_scalars set b))
third_scalars set fresh (Some other) a b = cond_both fresh _ _ HasScalars (λ twice. refl) (λ once. refl)

pub jis_scalars : (set : Set) (kept : JisKept) (fresh : Bool) (b : ℕ) → IsFitJis kept
    → HasScalars (tells_set set kept fresh b)
jis_scalars set jis_nothing fresh b h = plain_scalars set b
jis_scalars set (jis_lead l) fresh b h = trail_scalars l b
jis_scalars set Escape fresh b h =
    cond_both (is_escape_second b) _ _ HasScalars (λ second. refl)
    (λ other. plain_scalars set b)
jis_scalars set (EscapeAnd a) fresh b h = third_scalars set fresh (escaped a b) a b
jis_scalars set (Owed c) fresh b h = and_from _ _ h (plain_scalars set b)

abbrev FitsJis : Iso2022Jp → Type 0
FitsJis s = IsFitJis s.kept

plain_fits : (set : Set) (fresh : Bool) (b : ℕ) → FitsJis (next_plain set fresh b)
plain_fits set fresh b =
    cond_both (is_escape b) _ _ IsFitJis (λ escape. tt)
    (λ other. cond_both (is_set_lead set b) _ _ IsFitJis (λ lead. tt) (λ none. tt))

trail_fits : (set : Set) (fresh : Bool) (b : ℕ) → FitsJis (next_trail set fresh b)
trail_fits set fresh b = cond_both (is_escape b) _ _ IsFitJis (λ escape. tt) (λ other. tt)

third_fits : (set : Set) (o : Option Set) (a b : ℕ) → FitsJis (next_third set o a b)
third_fits set None a b =
    cond_both (is_set_lead set a) _ _ FitsJis (λ lead. trail_fits set false b) (λ other. plain_fits set false b)
third_fits set (Some other) a b = tt

pub jis_fits : (set : Set) (kept : JisKept) (fresh : Bool) (b : ℕ) → FitsJis (next_kept set kept fresh b)
jis_fits set jis_nothing fresh b = plain_fits set fresh b
jis_fits set (jis_lead l) fresh b = trail_fits set fresh b
jis_fits set Escape fresh b =
    cond_both (is_escape_second b) _ _ FitsJis (λ second. tt) (λ other. plain_fits set false b)
jis_fits set (EscapeAnd a) fresh b = third_fits set (escaped a b) a b
jis_fits set (Owed c) fresh b = plain_fits set fresh b

pub jis_end : (set : Set) (kept : JisKept) → IsFitJis kept → HasScalars (ends_set set kept)
jis_end set jis_nothing h = refl
jis_end set (jis_lead l) h = refl
jis_end set Escape h = refl
jis_end set (EscapeAnd a) h =
    cond_both (is_set_lead set a) _ _ HasScalars (λ lead. refl) (λ other. plain_scalars set a)
jis_end set (Owed c) h = scalar_told c h
