-- All characters that bytes of the encodings of several bytes output are scalar values.
use Rattle.std.proofs.Common.{◌≡◌, ◌+◌, ◌-◌, ◌*◌, ◌<◌, ℕ, Bool, true, false, List, [], ◌∷◌, ◌++◌, refl, ap, ◌∙◌, arith}
use Rattle.std.proofs.Common.{lit<}
use Rattle.std.proofs.lemmas.Bool.{and_from, and_parts, cond_both}
use Rattle.std.proofs.lemmas.Bool.Decides.{nat_tests}
use Rattle.std.specs.Char.{IsScalar}
use Rattle.std.specs.Prelude.{IfSome, Option, Some, None, nat_le, nat_lt, ◌==◌, ◌&&◌, ◌||◌, if◌then◌else◌}
use Rattle.std.specs.Str.{all_scalars}
use Rattle.tendril_decode.proofs.Entries.{scalar-big5, scalar-euc_kr, scalar-gb18030, scalar-jis0208, scalar-jis0212}
use Rattle.tendril_decode.proofs.Gb18030Steps.{scalar-ranges}
use Rattle.tendril_decode.proofs.Machines.{scalars-append}
use Rattle.tendril_decode.specs.Big5.{big5_at, big5_cell, big5_first, big5_pair, is_big5_trail}
use Rattle.tendril_decode.specs.EucJp.{are_cells, begins_jis0212, is_jp_lead, is_katakana, jis0212_pair, jp_ends}
use Rattle.tendril_decode.specs.EucJp.{jp_pair, jp_tells}
use Rattle.tendril_decode.specs.EucKr.{kr_first, kr_pair, kr_pointer}
use Rattle.tendril_decode.specs.Gb18030.{ends_kept, four_bytes_pointer, is_digit, is_lead, is_trail, kept_after}
use Rattle.tendril_decode.specs.Gb18030.{kept_after_first, kept_at_start, ranges_code}
use Rattle.tendril_decode.specs.Gb18030.{tells_after_first, tells_at_start, tells_byte as tells_kept, tells_owed}
use Rattle.tendril_decode.specs.Gb18030.{tells_two_bytes, trail_cell, two_bytes_code}
use Rattle.tendril_decode.specs.ShiftJis.{is_private, is_sjis_trail, sjis_cell, sjis_char, sjis_first, sjis_pair}
use Rattle.tendril_decode.specs.ShiftJis.{sjis_row}
use Rattle.tendril_decode.specs.Single.{tells_entry}
use Rattle.tendril_decode.specs.TwoBytes.{FitsFirst, FitsPair, ends_at, in_range, pair_of, tells_byte, tells_first}
use Rattle.tendril_decode.specs.TwoBytes.{tells_pair}
use Rattle.tendril_decode.specs.declared.euc_jp.EucJp.{EucJp}
use Rattle.tendril_decode.specs.declared.euc_jp.EucJp.TheVariants.{Start, Lead as jp_lead, SecondLead}
use Rattle.tendril_decode.specs.declared.gb18030.Kept.{Kept as GbKept}
use Rattle.tendril_decode.specs.declared.gb18030.Kept.TheVariants.{Nothing, First, Second, Third}
use Rattle.tendril_decode.specs.declared.two_bytes.First.{First as FirstByte}
use Rattle.tendril_decode.specs.declared.two_bytes.First.TheVariants.{Character, Lead, Malformed}
use Rattle.tendril_decode.specs.declared.two_bytes.Pair.{Pair}
use Rattle.tendril_decode.specs.declared.two_bytes.Pair.TheVariants.{One, Two, Absent}
use Rattle.tendril_encoding.specs.Outputs.{HasScalars}
use Rattle.tendril_lossy.proofs.Told.{characters-append}
use Rattle.tendril_lossy.specs.Lossy.{Told, Char, characters}

pub scalars_both : (t u : List Told) → HasScalars t → HasScalars u → HasScalars (t ++ u)
scalars_both t u h k =
    ap all_scalars (characters-append t u) ∙ scalars-append (characters t) (characters u) h k

pub scalar_told : (c : ℕ) → IsScalar c → HasScalars (Char c ∷ [])
scalar_told c h = and_from _ _ h refl

pub byte_scalar : (b : ℕ) → b < 256 → IsScalar b
byte_scalar b h = grind (arith, nat_tests)

ascii_scalar : (b : ℕ) → nat_lt b 0x80 ≡ true → IsScalar b
ascii_scalar b h = grind (arith, nat_tests)

pub entry_scalars : (c : ℕ) → IsScalar c → HasScalars (tells_entry c)
entry_scalars c h = cond_both (c == 0) _ _ HasScalars (λ none. refl) (λ some. scalar_told c h)

-- a lead and a trail
pair_scalars : (p : Pair) (b : ℕ) → FitsPair p → HasScalars (tells_pair p b)
pair_scalars (One c) b h = scalar_told c h
pair_scalars (Two c d) b h = and_from _ _ h.0 (scalar_told d h.1)
pair_scalars Absent b h =
    cond_both (nat_lt b 0x80) _ _ HasScalars
    (λ low. scalar_told b (ascii_scalar b low))
    (λ high. refl)

first_scalars : (f : FirstByte) → FitsFirst f → HasScalars (tells_first f)
first_scalars (Character c) h = scalar_told c h.0
first_scalars Lead h = refl
first_scalars Malformed h = refl

pub two_bytes_scalars : (first : ℕ → FirstByte) (pair : ℕ → ℕ → Pair) → ((b : ℕ) → FitsFirst (first b))
    → ((l b : ℕ) → FitsPair (pair l b)) → (lead : Option ℕ) (b : ℕ) → HasScalars (tells_byte first pair lead b)
two_bytes_scalars first pair firsts pairs None b =
    cond_both (nat_lt b 0x80) _ _ HasScalars
    (λ low. scalar_told b (ascii_scalar b low))
    (λ high. first_scalars (first b) (firsts b))
two_bytes_scalars first pair firsts pairs (Some l) b = pair_scalars (pair l b) b (pairs l b)

pub two_bytes_end : (lead : Option ℕ) → HasScalars (ends_at lead)
two_bytes_end None = refl
two_bytes_end (Some l) = refl

pair_of_fits : (c : ℕ) → IsScalar c → FitsPair (pair_of c)
pair_of_fits c h = cond_both (c == 0) _ _ FitsPair (λ none. tt) (λ some. h)

-- what is in an index, if the trail is in its range
index_fits : (t : Bool) (c : ℕ) → IsScalar c → FitsPair (if t then pair_of c else Absent)
index_fits true c h = pair_of_fits c h
index_fits false c h = tt

pub index_scalar : (t : Bool) (c : ℕ) → IsScalar c → IsScalar (if t then c else 0)
index_scalar true c h = h
index_scalar false c h = refl

lead_fits : (t : Bool) → FitsFirst (if t then Lead else Malformed)
lead_fits true = tt
lead_fits false = tt

-- EUC-KR
pub kr_firsts : (b : ℕ) → FitsFirst (kr_first b)
kr_firsts b = lead_fits (in_range 0x81 0xFE b)

pub kr_pairs : (l b : ℕ) → FitsPair (kr_pair l b)
unfolding kr_pair
kr_pairs l b = index_fits (in_range 0x41 0xFE b) _ (scalar-euc_kr (kr_pointer l b))

-- Big5
pub big5_firsts : (b : ℕ) → FitsFirst (big5_first b)
big5_firsts b = lead_fits (in_range 0x81 0xFE b)

big5_at_fits : (p : ℕ) → FitsPair (big5_at p)
unfolding big5_at
big5_at_fits p =
    cond_both (p == 1133) _ _ FitsPair (λ is. (refl, refl, lit< tt, lit< tt))
    (λ other. cond_both (p == 1135) _ _ FitsPair (λ is. (refl, refl, lit< tt, lit< tt))
    (λ other. cond_both (p == 1164) _ _ FitsPair (λ is. (refl, refl, lit< tt, lit< tt))
    (λ other. cond_both (p == 1166) _ _ FitsPair (λ is. (refl, refl, lit< tt, lit< tt))
    (λ other. pair_of_fits _ (scalar-big5 p)))))

pub big5_pairs : (l b : ℕ) → FitsPair (big5_pair l b)
unfolding big5_pair
big5_pairs l b =
    cond_both (is_big5_trail b) _ _ FitsPair
    (λ trail. big5_at_fits ((l - 0x81) * 157 + big5_cell b))
    (λ other. tt)

-- Shift_JIS
katakana_scalar : (b : ℕ) → in_range 0xA1 0xDF b ≡ true → IsScalar (0xFF61 + (b - 0xA1))
katakana_scalar b h = grind (arith, nat_tests)

katakana_small : (b : ℕ) → in_range 0xA1 0xDF b ≡ true → 0xFF61 + (b - 0xA1) < 0x1_0000
katakana_small b h = grind (arith, nat_tests)

pub sjis_firsts : (b : ℕ) → FitsFirst (sjis_first b)
sjis_firsts b =
    cond_both (in_range 0x81 0x9F b || in_range 0xE0 0xFC b) _ _ FitsFirst (λ lead. tt)
    (λ other. cond_both (in_range 0xA1 0xDF b) _ _ FitsFirst (λ kana. (katakana_scalar b kana, katakana_small b kana))
    (λ other. cond_both (b == 0x80) _ _ FitsFirst (λ is. (refl, lit< tt)) (λ none. tt)))

private_scalar : (p : ℕ) → is_private p ≡ true → IsScalar (0xE000 + (p - 8836))
private_scalar p h = grind (arith, nat_tests)

sjis_char_scalar : (p : ℕ) → IsScalar (sjis_char p)
unfolding sjis_char
sjis_char_scalar p = cond_both (is_private p) _ _ IsScalar (private_scalar p) (λ other. scalar-jis0208 p)

pub sjis_pairs : (l b : ℕ) → FitsPair (sjis_pair l b)
unfolding sjis_pair
sjis_pairs l b = index_fits (is_sjis_trail b) _ (sjis_char_scalar (sjis_row l + sjis_cell b))

-- EUC-JP
jp_pair_fits : (l b : ℕ) → FitsPair (jp_pair l b)
unfolding jp_pair
jp_pair_fits l b =
    cond_both (is_katakana l b) _ _ FitsPair
    (λ kana. katakana_scalar b (and_parts (l == 0x8E) (in_range 0xA1 0xDF b) kana).1)
    (λ other. index_fits (are_cells l b) _ (scalar-jis0208 ((l - 0xA1) * 94 + (b - 0xA1))))

jis0212_pair_fits : (l b : ℕ) → FitsPair (jis0212_pair l b)
unfolding jis0212_pair
jis0212_pair_fits l b = index_fits (are_cells l b) _ (scalar-jis0212 ((l - 0xA1) * 94 + (b - 0xA1)))

pub jp_scalars : (s : EucJp) (b : ℕ) → HasScalars (jp_tells s b)
jp_scalars Start b =
    cond_both (nat_lt b 0x80) _ _ HasScalars (λ low. scalar_told b (ascii_scalar b low))
    (λ high. cond_both (is_jp_lead b) _ _ HasScalars (λ lead. refl) (λ other. refl))
jp_scalars (jp_lead l) b =
    cond_both (begins_jis0212 l b) _ _ HasScalars (λ second. refl)
    (λ other. pair_scalars (jp_pair l b) b (jp_pair_fits l b))
jp_scalars (SecondLead l) b = pair_scalars (jis0212_pair l b) b (jis0212_pair_fits l b)

pub jp_end : (s : EucJp) → HasScalars (jp_ends s)
jp_end Start = refl
jp_end (jp_lead l) = refl
jp_end (SecondLead l) = refl

-- gb18030: what is owed is a scalar value, and a second byte that is kept is one, since it may be put back
abbrev IsFitSecond : GbKept → Type 0
IsFitSecond Nothing = Unit {0}
IsFitSecond (First first) = Unit {0}
IsFitSecond (Second first second) = IsScalar second
IsFitSecond (Third first second third) = IsScalar second

abbrev pub IsFitGb18030 : Option ℕ → GbKept → Type 0
IsFitGb18030 None kept = IsFitSecond kept
IsFitGb18030 (Some d) kept = IsScalar d × IsFitSecond kept

second_fits : (owed : Option ℕ) (kept : GbKept) → IsFitGb18030 owed kept → IsFitSecond kept
second_fits None kept h = h
second_fits (Some d) kept h = h.1

owed_scalars : (owed : Option ℕ) (kept : GbKept) → IsFitGb18030 owed kept → HasScalars (tells_owed owed)
owed_scalars None kept h = refl
owed_scalars (Some d) kept h = scalar_told d h.0

two_bytes_scalar : (f b : ℕ) → IsScalar (two_bytes_code f b)
unfolding two_bytes_code
two_bytes_scalar f b = index_scalar (is_trail b) _ (scalar-gb18030 ((f - 0x81) * 190 + trail_cell b))

start_scalars : (b : ℕ) → HasScalars (tells_at_start b)
start_scalars b =
    cond_both (nat_lt b 0x80) _ _ HasScalars (λ low. scalar_told b (ascii_scalar b low))
    (λ high. cond_both (b == 0x80) _ _ HasScalars (λ euro. refl)
    (λ other. cond_both (is_lead b) _ _ HasScalars (λ lead. refl) (λ none. refl)))

code_scalars : (c b : ℕ) → IsScalar c → b < 256 → HasScalars (tells_two_bytes c b)
code_scalars c b h k =
    cond_both ((c == 0) && nat_lt b 0x80) _ _ HasScalars
    (λ low. scalar_told b (byte_scalar b k))
    (λ other. entry_scalars c h)

after_first_scalars : (f b : ℕ) → b < 256 → HasScalars (tells_after_first f b)
after_first_scalars f b k =
    cond_both (is_digit b) _ _ HasScalars (λ digit. refl)
    (λ other. code_scalars (two_bytes_code f b) b (two_bytes_scalar f b) k)

kept_scalars : (kept : GbKept) (b : ℕ) → IsFitSecond kept → b < 256 → HasScalars (tells_kept kept b)
kept_scalars Nothing b h k = start_scalars b
kept_scalars (First f) b h k = after_first_scalars f b k
kept_scalars (Second f s) b h k =
    cond_both (is_lead b) _ _ HasScalars (λ lead. refl)
    (λ other. and_from _ _ h (start_scalars b))
kept_scalars (Third f s t) b h k =
    cond_both (is_digit b) _ _ HasScalars
    (λ digit. let p = four_bytes_pointer f s t b in entry_scalars (ranges_code p) (scalar-ranges p))
    (λ other. and_from _ _ h (after_first_scalars t b k))

pub gb18030_scalars : (owed : Option ℕ) (kept : GbKept) (b : ℕ) → IsFitGb18030 owed kept → b < 256
    → HasScalars (tells_owed owed ++ tells_kept kept b)
gb18030_scalars owed kept b h k =
    scalars_both (tells_owed owed) (tells_kept kept b) (owed_scalars owed kept h)
    (kept_scalars kept b (second_fits owed kept h) k)

start_fits : (b : ℕ) → IsFitSecond (kept_at_start b)
start_fits b =
    cond_both (nat_lt b 0x80) _ _ IsFitSecond (λ low. tt)
    (λ high. cond_both (is_lead b) _ _ IsFitSecond (λ lead. tt) (λ other. tt))

after_first_fits : (f b : ℕ) → b < 256 → IsFitSecond (kept_after_first f b)
after_first_fits f b k = cond_both (is_digit b) _ _ IsFitSecond (λ digit. byte_scalar b k) (λ other. tt)

kept_fits : (kept : GbKept) (b : ℕ) → IsFitSecond kept → b < 256 → IsFitSecond (kept_after kept b)
kept_fits Nothing b h k = start_fits b
kept_fits (First f) b h k = after_first_fits f b k
kept_fits (Second f s) b h k = cond_both (is_lead b) _ _ IsFitSecond (λ lead. h) (λ other. start_fits b)
kept_fits (Third f s t) b h k = cond_both (is_digit b) _ _ IsFitSecond (λ digit. tt) (λ other. after_first_fits t b k)

pub gb18030_fits : (owed : Option ℕ) (kept : GbKept) (b : ℕ) → IsFitGb18030 owed kept → b < 256
    → IsFitGb18030 None (kept_after kept b)
gb18030_fits owed kept b h k = kept_fits kept b (second_fits owed kept h) k

kept_end : (kept : GbKept) → HasScalars (ends_kept kept)
kept_end Nothing = refl
kept_end (First f) = refl
kept_end (Second f s) = refl
kept_end (Third f s t) = refl

pub gb18030_end : (owed : Option ℕ) (kept : GbKept) → IsFitGb18030 owed kept
    → HasScalars (tells_owed owed ++ ends_kept kept)
gb18030_end owed kept h = scalars_both (tells_owed owed) (ends_kept kept) (owed_scalars owed kept h) (kept_end kept)
