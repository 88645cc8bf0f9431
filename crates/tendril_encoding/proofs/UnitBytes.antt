-- The bytes of the units of a text, decoded as UTF-16LE, are the characters of the text.
use Rattle.std.proofs.Common.{◌≡◌, ◌<◌, ◌+◌, ◌-◌, ◌/◌, ◌%◌, ℕ, true, false, List, [], ◌∷◌, ◌++◌, map, flat_map, refl}
use Rattle.std.proofs.Common.{ap, ap₂, ◌∙◌}
use Rattle.std.proofs.Common.{arith, ⊎_elim, append_assoc}
use Rattle.std.proofs.lemmas.Bool.{and_parts, cases_lt, cond-false, cond-true}
use Rattle.std.proofs.lemmas.Bool.Decides.{nat_tests}
use Rattle.std.proofs.lemmas.List.Concat.{flat_map-append}
use Rattle.std.proofs.lemmas.Str.{scalars-chars}
use Rattle.std.specs.Char.{IsScalar}
use Rattle.std.specs.Char.Escape.{encode_utf16}
use Rattle.std.specs.Char.Utf16.{is_high_surrogate, is_low_surrogate, surrogate_pair_char}
use Rattle.std.specs.Int.{to_le_bytes, w16}
use Rattle.std.specs.Prelude.{Option, Some, None, IsUtf8, chars}
use Rattle.std.specs.Str.{all_scalars}
use Rattle.tendril_decode.specs.Machines.{state_after, told_from}
use Rattle.tendril_decode.specs.Utf16.{lead_after, tells_unit, unit_of}
use Rattle.tendril_decode.specs.declared.any_decoder.AnyDecoder.{AnyDecoder}
use Rattle.tendril_decode.specs.declared.any_decoder.AnyDecoder.TheVariants.{Utf16Le}
use Rattle.tendril_fmt.specs.Proved.Units.{one_unit, two_units}
use Rattle.tendril_fmt.specs.Wtf8.{units}
use Rattle.tendril_encoding.specs.Known.{slices}
use Rattle.tendril_encoding.specs.Laws.{decoded_known}
use Rattle.tendril_encoding.specs.Outputs.{unit_bytes}
use Rattle.tendril_encoding.specs.declared.known.Chosen.{Chosen}
use Rattle.tendril_encoding.specs.declared.known.Chosen.TheVariants.{Slices}
use Rattle.tendril_lossy.specs.Lossy.{Char}

-- a decoder that keeps a lead, or nothing
abbrev slices_lead : Option ℕ → AnyDecoder
slices_lead lead = Utf16Le (record { lead = lead; odd = None })

abbrev with_lead : Option ℕ → Chosen
with_lead lead = Slices (slices_lead lead)

unit_back : (u : ℕ) → u < 65536 → unit_of false (u % 256) (u / 256 % 256) ≡ u
unit_back u h = omega arith

-- the two bytes of a unit
told_unit : (lead : Option ℕ) (u : ℕ) (rest : List ℕ) → u < 65536
    → decoded_known (with_lead lead) (to_le_bytes w16 u ++ rest)
    ≡ tells_unit lead u ++ decoded_known (with_lead (lead_after u)) rest
told_unit lead u rest h =
    let v = unit_of false (u % 256) (u / 256 % 256) in
    append_assoc (tells_unit lead v) (told_from slices (slices_lead (lead_after v)) rest)
    (slices.ends (state_after slices (slices_lead (lead_after v)) rest))
    ∙ ap (λ w. tells_unit lead w ++ decoded_known (with_lead (lead_after w)) rest) (unit_back u h)

-- a unit that is a character
told_one : (c : ℕ) (rest : List ℕ) → IsScalar c → c < 0x1_0000
    → decoded_known (with_lead None) (to_le_bytes w16 c ++ rest) ≡ Char c ∷ decoded_known (with_lead None) rest
told_one c rest scalar small =
    let high : is_high_surrogate c ≡ false = grind (arith, nat_tests) in
    let low : is_low_surrogate c ≡ false = grind (arith, nat_tests) in
    told_unit None c rest small
    ∙ ap₂ (λ l o. l ++ decoded_known (with_lead o) rest) (cond-false _ _ _ high ∙ cond-false _ _ _ low)
    (cond-false _ _ _ high)

-- a lead and a trail
told_pair : (u v : ℕ) (rest : List ℕ) → is_high_surrogate u ≡ true → is_low_surrogate v ≡ true
    → decoded_known (with_lead None) (to_le_bytes w16 u ++ (to_le_bytes w16 v ++ rest))
    ≡ Char (surrogate_pair_char u v) ∷ decoded_known (with_lead None) rest
told_pair u v rest lead trail =
    let first : u < 65536 = grind (arith, nat_tests) in
    let second : v < 65536 = grind (arith, nat_tests) in
    let after : is_high_surrogate v ≡ false = grind (arith, nat_tests) in
    told_unit None u (to_le_bytes w16 v ++ rest) first
    ∙ ap₂ (λ l o. l ++ decoded_known (with_lead o) (to_le_bytes w16 v ++ rest)) (cond-true _ _ _ lead)
    (cond-true _ _ _ lead)
    ∙ told_unit (Some u) v rest second
    ∙ ap₂ (λ l o. l ++ decoded_known (with_lead o) rest) (cond-true _ _ _ trail) (cond-false _ _ _ after)

told_char : (c : ℕ) (rest : List ℕ) → IsScalar c
    → decoded_known (with_lead None) (unit_bytes (encode_utf16 c) ++ rest)
    ≡ Char c ∷ decoded_known (with_lead None) rest
told_char c rest scalar = ⊎_elim
    (λ small.
    ap (λ us. decoded_known (with_lead None) (unit_bytes us ++ rest)) (one_unit c small)
    ∙ told_one c rest scalar small)
    (λ large.
    let u = 0xD800 + (c - 0x1_0000) / 0x400 in
    let v = 0xDC00 + (c - 0x1_0000) % 0x400 in
    let top : c < 0x11_0000 = grind (arith, nat_tests) in
    let few : (c - 0x1_0000) / 0x400 < 0x400 = omega arith in
    let lead : is_high_surrogate u ≡ true = grind (arith, nat_tests) in
    let trail : is_low_surrogate v ≡ true = grind (arith, nat_tests) in
    let same : surrogate_pair_char u v ≡ c = omega arith in
    ap (λ us. decoded_known (with_lead None) (unit_bytes us ++ rest)) (two_units c large)
    ∙ told_pair u v rest lead trail ∙ ap (λ d. Char d ∷ decoded_known (with_lead None) rest) same)
    (cases_lt c 0x1_0000)

told_chars : (cs : List ℕ) → all_scalars cs ≡ true
    → decoded_known (with_lead None) (unit_bytes (flat_map encode_utf16 cs)) ≡ map Char cs
told_chars [] h = refl
told_chars (c ∷ cs) h =
    let both = and_parts _ _ h in
    ap (decoded_known (with_lead None)) (flat_map-append (to_le_bytes w16) (encode_utf16 c) (flat_map encode_utf16 cs))
    ∙ told_char c (unit_bytes (flat_map encode_utf16 cs)) both.0
    ∙ ap (λ l. Char c ∷ l) (told_chars cs both.1)

pub told_units : (b : List ℕ) → IsUtf8 b
    → decoded_known (with_lead None) (unit_bytes (units b)) ≡ map Char (chars b)
told_units b h = told_chars (chars b) (scalars-chars b h)
