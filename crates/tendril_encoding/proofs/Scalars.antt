-- All characters that a decoding outputs are scalar values.
use Rattle.std.proofs.Common.{◌≡◌, ◌<◌, ℕ, Bool, true, false, List, [], ◌∷◌, ◌++◌, length, drop, flat_map, refl, ap}
use Rattle.std.proofs.Common.{◌∙◌}
use Rattle.std.proofs.Common.{arith, zero, suc, ⊎_elim}
use Rattle.std.proofs.lemmas.Bool.{and_from, cases_Bool, cond-false, cond-true}
use Rattle.std.proofs.lemmas.Bool.Decides.{nat_tests}
use Rattle.std.specs.Char.{IsScalar}
use Rattle.std.specs.Char.Utf16.{is_high_surrogate, is_low_surrogate, surrogate_pair_char}
use Rattle.std.specs.Prelude.{Option, Some, None, if◌then◌else◌}
use Rattle.std.specs.Str.{all_scalars}
use Rattle.tendril_decode.specs.Big5.{big5_first, big5_pair}
use Rattle.tendril_decode.specs.EucKr.{kr_first, kr_pair}
use Rattle.tendril_decode.specs.Machines.{invalid, state_after, told_from}
use Rattle.tendril_decode.specs.ShiftJis.{sjis_first, sjis_pair}
use Rattle.tendril_decode.specs.Single.{table_of, tells_byte as tells_single}
use Rattle.tendril_decode.specs.Utf16.{ends_at, is_fit_lead, lead_after, step_byte, tells_alone, tells_byte, tells_unit}
use Rattle.tendril_decode.specs.Utf16.{unit_of}
use Rattle.tendril_decode.specs.declared.any_decoder.AnyDecoder.{AnyDecoder}
use Rattle.tendril_decode.specs.declared.any_decoder.AnyDecoder.TheVariants.{Single, Big5, EucJp, EucKr, Gb18030}
use Rattle.tendril_decode.specs.declared.any_decoder.AnyDecoder.TheVariants.{Iso2022Jp, ShiftJis, Utf16Le, Utf16Be}
use Rattle.tendril_decode.specs.declared.any_decoder.AnyDecoder.TheVariants.{Replacement}
use Rattle.tendril_decode.specs.declared.single_byte.SingleByte.{SingleByte}
use Rattle.tendril_decode.specs.declared.utf16.Utf16.{Utf16}
use Rattle.tendril_encoding.specs.First.{after_mark}
use Rattle.tendril_encoding.specs.Known.{slices}
use Rattle.tendril_encoding.specs.Laws.{decoded_after, decoded_known, mark_bytes}
use Rattle.tendril_encoding.specs.Outputs.{HasScalars}
use Rattle.tendril_encoding.specs.declared.known.Chosen.{Chosen}
use Rattle.tendril_encoding.specs.declared.known.Chosen.TheVariants.{Pieces, Slices}
use Rattle.tendril_encoding.specs.declared.mark.Mark.{Mark}
use Rattle.tendril_encoding.specs.declared.mark.Mark.TheVariants.{OfUtf8, OfUtf16Le, OfUtf16Be}
use Rattle.tendril_fmt.specs.Bytes.{AreBytes}
use Rattle.tendril_fmt.specs.Proved.Bytes.{AreBytes-drop}
use Rattle.tendril_encoding.proofs.ManyBytes.{IsFitGb18030, scalar_told, scalars_both}
use Rattle.tendril_encoding.proofs.ManyBytes.{big5_firsts, big5_pairs, kr_firsts, kr_pairs, sjis_firsts, sjis_pairs}
use Rattle.tendril_encoding.proofs.ManyBytes.{gb18030_end, gb18030_fits, gb18030_scalars}
use Rattle.tendril_encoding.proofs.ManyBytes.{jp_end, jp_scalars, two_bytes_end, two_bytes_scalars}
use Rattle.tendril_encoding.proofs.JisScalars.{IsFitJis, jis_end, jis_fits, jis_scalars}
use Rattle.tendril_encoding.proofs.SingleTables.{few_told}
use Rattle.tendril_lossy.proofs.Streams.{IsLossy-lossy}
use Rattle.tendril_lossy.specs.Lossy.{Item, Keep, Bad, Cut, IsLossy, characters, closed_of, due, due_of}
use Rattle.tendril_lossy.specs.Lossy.{due_open, kept, lossy}

-- UTF-8
scalars_closed : (bs : List ℕ) (items : List Item) → IsLossy bs items → HasScalars (flat_map closed_of items)
scalars_closed bs [] h = refl
scalars_closed bs (Keep c ∷ items) h = and_from _ _ h.1 (scalars_closed h.0 items h.3)
scalars_closed bs (Bad n ∷ items) h = scalars_closed _ items h.3
scalars_closed bs (Cut xs ∷ items) h = ap (λ l. all_scalars (characters (flat_map closed_of l))) h.3

scalars_ended : (bs : List ℕ) (items : List Item) → IsLossy bs items → HasScalars (flat_map due_of items)
scalars_ended bs [] h = refl
scalars_ended bs (Keep c ∷ items) h = and_from _ _ h.1 (scalars_ended h.0 items h.3)
scalars_ended bs (Bad n ∷ items) h = scalars_ended _ items h.3
scalars_ended bs (Cut xs ∷ items) h = ap (λ l. all_scalars (characters (flat_map due_of (Cut xs ∷ l)))) h.3

scalars_open : (bs : List ℕ) → HasScalars (due_open bs)
scalars_open bs = scalars_closed bs (lossy bs) (IsLossy-lossy bs)

scalars_due : (bs : List ℕ) → HasScalars (due bs)
scalars_due bs = scalars_ended bs (lossy bs) (IsLossy-lossy bs)

-- UTF-16: a lead that is kept is one, and a byte that is kept is one
abbrev IsOddByte : Option ℕ → Type 0
IsOddByte None = Unit {0}
IsOddByte (Some a) = a < 256

abbrev IsFit16 : Option ℕ → Option ℕ → Type 0
IsFit16 lead odd = (is_fit_lead lead ≡ true) × IsOddByte odd

unit_small : (big : Bool) (a b : ℕ) → a < 256 → b < 256 → unit_of big a b < 65536
unit_small true a b h k = omega arith
unit_small false a b h k = omega arith

unit_scalar : (u : ℕ) → u < 65536 → is_high_surrogate u ≡ false → is_low_surrogate u ≡ false → IsScalar u
unit_scalar u h k l = grind (arith, nat_tests)

pair_scalar : (l u : ℕ) → is_high_surrogate l ≡ true → is_low_surrogate u ≡ true → IsScalar (surrogate_pair_char l u)
pair_scalar l u h k = grind (arith, nat_tests)

lead_fits : (u : ℕ) → is_fit_lead (lead_after u) ≡ true
lead_fits u = ⊎_elim
    (λ yes. ap is_fit_lead (cond-true _ _ _ yes) ∙ yes)
    (λ no. ap is_fit_lead (cond-false _ _ _ no))
    (cases_Bool (is_high_surrogate u))

alone_scalars : (u : ℕ) → u < 65536 → HasScalars (tells_alone u)
alone_scalars u h = ⊎_elim
    (λ yes. ap (λ l. all_scalars (characters l)) (cond-true _ _ _ yes))
    (λ no. ap (λ l. all_scalars (characters l)) (cond-false _ _ _ no) ∙ ⊎_elim
    (λ yes. ap (λ l. all_scalars (characters l)) (cond-true _ _ _ yes))
    (λ other. ap (λ l. all_scalars (characters l)) (cond-false _ _ _ other)
    ∙ scalar_told u (unit_scalar u h no other))
    (cases_Bool (is_low_surrogate u)))
    (cases_Bool (is_high_surrogate u))

unit_scalars : (lead : Option ℕ) (u : ℕ) → is_fit_lead lead ≡ true → u < 65536 → HasScalars (tells_unit lead u)
unit_scalars None u h k = alone_scalars u k
unit_scalars (Some l) u h k = ⊎_elim
    (λ yes. ap (λ l. all_scalars (characters l)) (cond-true _ _ _ yes)
    ∙ scalar_told (surrogate_pair_char l u) (pair_scalar l u h yes))
    (λ no. ap (λ l. all_scalars (characters l)) (cond-false _ _ _ no)
    ∙ scalars_both invalid (tells_alone u) refl (alone_scalars u k))
    (cases_Bool (is_low_surrogate u))

byte_scalars : (big : Bool) (lead odd : Option ℕ) (b : ℕ) → IsFit16 lead odd → b < 256
    → HasScalars (tells_byte big lead odd b)
byte_scalars big lead None b h k = refl
byte_scalars big lead (Some a) b h k = unit_scalars lead (unit_of big a b) h.0 (unit_small big a b h.1 k)

byte_fits : (n : ℕ) (big : Bool) (lead odd : Option ℕ) (b : ℕ) → IsFit16 lead odd → b < 256
    → (let t : Utf16 n = step_byte big lead odd b in IsFit16 t.lead t.odd)
byte_fits n big lead None b h k = (h.0, k)
byte_fits n big lead (Some a) b h k = (lead_fits (unit_of big a b), tt)

end_scalars : (lead odd : Option ℕ) → HasScalars (ends_at lead odd)
end_scalars None None = refl
end_scalars None (Some a) = refl
end_scalars (Some l) o = refl

-- a byte of an encoding of one byte
single_scalars : (e : SingleByte) (b : ℕ) → b < 256 → HasScalars (tells_single (table_of e) b)
single_scalars e b h = ⊎_elim
    (λ none. ap (λ l. all_scalars (characters l)) none)
    (λ k. ap (λ l. all_scalars (characters l)) k.3 ∙ scalar_told k.0 k.1)
    (few_told e b h)

replacement_scalars : (seen : Bool) → HasScalars (if seen then [] else invalid)
replacement_scalars true = refl
replacement_scalars false = refl

-- the states that occur, as far as characters are owed in them
abbrev IsFitSlices : AnyDecoder → Type 0
IsFitSlices (Single e) = Unit {0}
IsFitSlices (Big5 s) = Unit {0}
IsFitSlices (EucJp s) = Unit {0}
IsFitSlices (EucKr s) = Unit {0}
IsFitSlices (Gb18030 s) = IsFitGb18030 s.owed s.kept
IsFitSlices (Iso2022Jp s) = IsFitJis s.kept
IsFitSlices (ShiftJis s) = Unit {0}
IsFitSlices (Utf16Le s) = IsFit16 s.lead s.odd
IsFitSlices (Utf16Be s) = IsFit16 s.lead s.odd
IsFitSlices (Replacement s) = Unit {0}

step_fits : (s : AnyDecoder) (b : ℕ) → IsFitSlices s → b < 256 → IsFitSlices (slices.step s b)
step_fits (Single e) b h k = tt
step_fits (Big5 s) b h k = tt
step_fits (EucJp s) b h k = tt
step_fits (EucKr s) b h k = tt
step_fits (Gb18030 s) b h k = gb18030_fits s.owed s.kept b h k
step_fits (Iso2022Jp s) b h k = jis_fits s.set s.kept s.fresh b
step_fits (ShiftJis s) b h k = tt
step_fits (Utf16Le s) b h k = byte_fits _ false s.lead s.odd b h k
step_fits (Utf16Be s) b h k = byte_fits _ true s.lead s.odd b h k
step_fits (Replacement s) b h k = tt

state_fits : (s : AnyDecoder) (b : List ℕ) → IsFitSlices s → AreBytes b → IsFitSlices (state_after slices s b)
state_fits s [] h k = h
state_fits s (x ∷ b) h k = state_fits (slices.step s x) b (step_fits s x h (k zero)) (λ i. k (suc i))

tells_scalars : (s : AnyDecoder) (b : ℕ) → IsFitSlices s → b < 256 → HasScalars (slices.tells s b)
tells_scalars (Single e) b h k = single_scalars e b k
tells_scalars (Big5 s) b h k = two_bytes_scalars big5_first big5_pair big5_firsts big5_pairs s.lead b
tells_scalars (EucJp s) b h k = jp_scalars s b
tells_scalars (EucKr s) b h k = two_bytes_scalars kr_first kr_pair kr_firsts kr_pairs s.lead b
tells_scalars (Gb18030 s) b h k = gb18030_scalars s.owed s.kept b h k
tells_scalars (Iso2022Jp s) b h k = jis_scalars s.set s.kept s.fresh b h
tells_scalars (ShiftJis s) b h k = two_bytes_scalars sjis_first sjis_pair sjis_firsts sjis_pairs s.lead b
tells_scalars (Utf16Le s) b h k = byte_scalars false s.lead s.odd b h k
tells_scalars (Utf16Be s) b h k = byte_scalars true s.lead s.odd b h k
tells_scalars (Replacement s) b h k = replacement_scalars s.seen

ends_scalars : (s : AnyDecoder) → IsFitSlices s → HasScalars (slices.ends s)
ends_scalars (Single e) h = refl
ends_scalars (Big5 s) h = two_bytes_end s.lead
ends_scalars (EucJp s) h = jp_end s
ends_scalars (EucKr s) h = two_bytes_end s.lead
ends_scalars (Gb18030 s) h = gb18030_end s.owed s.kept h
ends_scalars (Iso2022Jp s) h = jis_end s.set s.kept h
ends_scalars (ShiftJis s) h = two_bytes_end s.lead
ends_scalars (Utf16Le s) h = end_scalars s.lead s.odd
ends_scalars (Utf16Be s) h = end_scalars s.lead s.odd
ends_scalars (Replacement s) h = refl

told_scalars : (s : AnyDecoder) (b : List ℕ) → IsFitSlices s → AreBytes b → HasScalars (told_from slices s b)
told_scalars s [] h k = refl
told_scalars s (x ∷ b) h k =
    scalars_both (slices.tells s x) (told_from slices (slices.step s x) b) (tells_scalars s x h (k zero))
    (told_scalars (slices.step s x) b (step_fits s x h (k zero)) (λ i. k (suc i)))

-- a whole stream
abbrev pub IsFitChosen : Chosen → Type 0
IsFitChosen (Pieces k) = Unit {0}
IsFitChosen (Slices s) = IsFitSlices s

known_scalars : (c : Chosen) (b : List ℕ) → IsFitChosen c → AreBytes b → HasScalars (decoded_known c b)
known_scalars (Pieces k) b h bytes =
    scalars_both (due_open (k ++ b)) (due (kept (k ++ b))) (scalars_open (k ++ b)) (scalars_due (kept (k ++ b)))
known_scalars (Slices s) b h bytes =
    scalars_both (told_from slices s b) (slices.ends (state_after slices s b)) (told_scalars s b h bytes)
    (ends_scalars (state_after slices s b) (state_fits s b h bytes))

mark_fits : (mark : Mark) → IsFitChosen (after_mark mark).chosen
mark_fits OfUtf8 = tt
mark_fits OfUtf16Le = (refl, tt)
mark_fits OfUtf16Be = (refl, tt)

pub scalars_after : (c : Chosen) (b : List ℕ) (mark : Option Mark) → IsFitChosen c → AreBytes b
    → HasScalars (decoded_after c b mark)
scalars_after c b None h bytes = known_scalars c b h bytes
scalars_after c b (Some mark) h bytes =
    let n = length (mark_bytes mark) in
    known_scalars (after_mark mark).chosen (drop n b) (mark_fits mark) (AreBytes-drop b n bytes)
