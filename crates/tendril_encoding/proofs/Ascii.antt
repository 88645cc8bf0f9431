-- Bytes that are all ASCII, where they stand for themselves.
use Rattle.std.proofs.Common.{◌≡◌, ◌<◌, ℕ, zero, suc, true, List, [], ◌∷◌, ◌++◌, length, map, flat_map, refl}
use Rattle.std.proofs.Common.{sym, ap, ap₂, subst, ◌∙◌, arith, append-nil, true≢false}
use Rattle.std.proofs.lemmas.Bool.{cond-true}
use Rattle.std.proofs.lemmas.Bool.Decides.{nat_tests}
use Rattle.std.proofs.lemmas.List.{nil_from_length}
use Rattle.std.proofs.lemmas.Str.{IsUtf8-from_ascii, chars-IsAscii}
use Rattle.std.specs.Prelude.{IsAscii, Option, Some, None, chars, nat_lt, ◌==◌}
use Rattle.tendril_decode.proofs.Gb18030Pairs.{complete_start}
use Rattle.tendril_decode.specs.Big5.{big5_first, big5_pair}
use Rattle.tendril_decode.specs.Characters.{KeepsAscii}
use Rattle.tendril_decode.specs.EucJp.{euc_jp, jp_ends, jp_keeps_ascii}
use Rattle.tendril_decode.specs.EucKr.{kr_first, kr_pair}
use Rattle.tendril_decode.specs.Gb18030.{gb18030, keeps_ascii as gb18030_keeps_ascii}
use Rattle.tendril_decode.specs.Machines.{tells_nothing, told_from, state_after}
use Rattle.tendril_decode.specs.ShiftJis.{sjis_first, sjis_pair}
use Rattle.tendril_decode.specs.Single.{table_of, tells_byte}
use Rattle.tendril_decode.specs.TwoBytes.{ends_at, keeps_ascii, two_bytes, with_lead}
use Rattle.tendril_decode.specs.declared.any_decoder.AnyDecoder.{AnyDecoder}
use Rattle.tendril_decode.specs.declared.any_decoder.AnyDecoder.TheVariants.{Single, Big5, EucJp, EucKr, Gb18030}
use Rattle.tendril_decode.specs.declared.any_decoder.AnyDecoder.TheVariants.{Iso2022Jp, ShiftJis, Utf16Le, Utf16Be}
use Rattle.tendril_decode.specs.declared.any_decoder.AnyDecoder.TheVariants.{Replacement}
use Rattle.tendril_decode.specs.declared.euc_jp.EucJp.{EucJp as JpState}
use Rattle.tendril_decode.specs.declared.euc_jp.EucJp.TheVariants.{Start, Lead, SecondLead}
use Rattle.tendril_decode.specs.declared.gb18030.Gb18030.{Gb18030 as GbState}
use Rattle.tendril_decode.specs.declared.single_byte.SingleByte.{SingleByte}
use Rattle.tendril_decode.specs.declared.two_bytes.First.{First}
use Rattle.tendril_decode.specs.declared.two_bytes.Pair.{Pair}
use Rattle.tendril_decode.specs.declared.two_bytes.TwoBytes.{TwoBytes}
use Rattle.tendril_encoding.specs.Known.{after_known, ends_known, out_known, passes_known, slices, slices_pass}
use Rattle.tendril_encoding.specs.declared.known.Chosen.{Chosen}
use Rattle.tendril_encoding.specs.declared.known.Chosen.TheVariants.{Pieces, Slices}
use Rattle.tendril_lossy.proofs.Fronts.{text_first}
use Rattle.tendril_lossy.proofs.Lossy.{lossy-nil}
use Rattle.tendril_lossy.proofs.Resume.{closed-keeps, cut-keeps}
use Rattle.tendril_lossy.specs.Lossy.{Told, Char, Keep, closed_of, cut_bytes, due, due_of, due_open, kept, lossy}

ascii_told : (table : List ℕ) (b : ℕ) → b < 0x80 → tells_byte table b ≡ Char b ∷ []
ascii_told table b h = let low : nat_lt b 0x80 ≡ true = grind (arith, nat_tests) in cond-true _ _ _ low

pub state_single : (e : SingleByte) (bs : List ℕ) → state_after slices (Single e) bs ≡ Single e
state_single e [] = refl
state_single e (b ∷ bs) = state_single e bs

text_items : (bs : List ℕ) → IsAscii bs → lossy bs ≡ map Keep (chars bs) ++ lossy []
text_items bs h = ap lossy (sym (append-nil bs)) ∙ text_first bs [] (IsUtf8-from_ascii bs h)

due_ascii : (bs : List ℕ) → IsAscii bs → due_open bs ≡ map Char (chars bs)
due_ascii bs h =
    ap (flat_map closed_of) (text_items bs h) ∙ closed-keeps (chars bs) (lossy [])
    ∙ ap (λ l. map Char (chars bs) ++ flat_map closed_of l) lossy-nil ∙ append-nil (map Char (chars bs))

kept_ascii : (bs : List ℕ) → IsAscii bs → kept bs ≡ []
kept_ascii bs h = ap cut_bytes (text_items bs h) ∙ cut-keeps (chars bs) (lossy []) ∙ ap cut_bytes lossy-nil

none_kept : (k : List ℕ) → (length k == 0) ≡ true → k ≡ []
none_kept k h = let none : length k ≡ 0 = grind (arith, nat_tests) in nil_from_length k none

-- the states in which slices pass ASCII bytes on: each tells itself, and keeps the state
nothing_lead : (lead : Option ℕ) → tells_nothing (ends_at lead) ≡ true → lead ≡ None
nothing_lead None p = refl
nothing_lead (Some l) p = absurd (cc)

two_bytes_keep : {E : Type 0} (first : ℕ → First) (pair : ℕ → ℕ → Pair) (s : TwoBytes E)
    → tells_nothing (ends_at s.lead) ≡ true → KeepsAscii (two_bytes first pair) s
two_bytes_keep first pair s p =
    subst (KeepsAscii (two_bytes first pair)) (ap with_lead (sym (nothing_lead s.lead p))) (keeps_ascii first pair)

jp_keep : (s : JpState) → tells_nothing (jp_ends s) ≡ true → KeepsAscii euc_jp s
jp_keep Start p = jp_keeps_ascii
jp_keep (Lead l) p = absurd (cc)
jp_keep (SecondLead l) p = absurd (cc)

gb18030_keep : (s : GbState) → tells_nothing (gb18030.ends s) ≡ true → KeepsAscii gb18030 s
gb18030_keep s p = subst (KeepsAscii gb18030) (sym (complete_start s (sym p))) gb18030_keeps_ascii

slices_keep : (s : AnyDecoder) → slices_pass s ≡ true → KeepsAscii slices s
slices_keep (Single e) p b h = (ascii_told (table_of e) b h, refl)
slices_keep (Big5 s) p b h = let k = two_bytes_keep big5_first big5_pair s p b h in (k.0, ap Big5 k.1)
slices_keep (EucJp s) p b h = let k = jp_keep s p b h in (k.0, ap EucJp k.1)
slices_keep (EucKr s) p b h = let k = two_bytes_keep kr_first kr_pair s p b h in (k.0, ap EucKr k.1)
slices_keep (Gb18030 s) p b h = let k = gb18030_keep s p b h in (k.0, ap Gb18030 k.1)
slices_keep (Iso2022Jp s) p b h = absurd (true≢false (sym p))
slices_keep (ShiftJis s) p b h = let k = two_bytes_keep sjis_first sjis_pair s p b h in (k.0, ap ShiftJis k.1)
slices_keep (Utf16Le s) p b h = absurd (true≢false (sym p))
slices_keep (Utf16Be s) p b h = absurd (true≢false (sym p))
slices_keep (Replacement s) p b h = absurd (true≢false (sym p))

module _ (s : AnyDecoder) (keeps : KeepsAscii slices s) where
  told_keeps : (bs : List ℕ) → IsAscii bs → told_from slices s bs ≡ map Char bs
  told_keeps [] h = refl
  told_keeps (b ∷ bs) h =
      let k = keeps b (h zero) in
      ap₂ (λ l t. l ++ told_from slices t bs) k.0 k.1
      ∙ ap (λ l. Char b ∷ l) (told_keeps bs (λ i. h (suc i)))

  state_keeps : (bs : List ℕ) → IsAscii bs → state_after slices s bs ≡ s
  state_keeps [] h = refl
  state_keeps (b ∷ bs) h =
      ap (λ t. state_after slices t bs) (keeps b (h zero)).1 ∙ state_keeps bs (λ i. h (suc i))

nothing_told : (told : List Told) → tells_nothing told ≡ true → told ≡ []
nothing_told [] p = refl
nothing_told (t ∷ told) p = absurd (cc)

slices_end : (s : AnyDecoder) → slices_pass s ≡ true → slices.ends s ≡ []
slices_end (Single e) p = refl
slices_end (Big5 s) p = nothing_told (slices.ends (Big5 s)) p
slices_end (EucJp s) p = nothing_told (slices.ends (EucJp s)) p
slices_end (EucKr s) p = nothing_told (slices.ends (EucKr s)) p
slices_end (Gb18030 s) p = nothing_told (slices.ends (Gb18030 s)) p
slices_end (Iso2022Jp s) p = absurd (true≢false (sym p))
slices_end (ShiftJis s) p = nothing_told (slices.ends (ShiftJis s)) p
slices_end (Utf16Le s) p = absurd (true≢false (sym p))
slices_end (Utf16Be s) p = absurd (true≢false (sym p))
slices_end (Replacement s) p = absurd (true≢false (sym p))

-- ASCII bytes output themselves
pub out_ascii : (c : Chosen) (bs : List ℕ) → passes_known c ≡ true → IsAscii bs → out_known c bs ≡ map Char (chars bs)
out_ascii (Pieces k) bs p h = ap (λ l. due_open (l ++ bs)) (none_kept k p) ∙ due_ascii bs h
out_ascii (Slices s) bs p h =
    told_keeps s (slices_keep s p) bs h ∙ ap (map Char) (sym (chars-IsAscii bs h))

-- and the state stays
pub after_ascii : (c : Chosen) (bs : List ℕ) → passes_known c ≡ true → IsAscii bs → c ≡ after_known c bs
after_ascii (Pieces k) bs p h =
    let nil = none_kept k p in
    ap Pieces (nil ∙ sym (ap (λ l. kept (l ++ bs)) nil ∙ kept_ascii bs h))
after_ascii (Slices s) bs p h = ap Slices (sym (state_keeps s (slices_keep s p) bs h))

-- and the end outputs nothing
pub ends_ascii : (c : Chosen) → passes_known c ≡ true → ends_known c ≡ []
ends_ascii (Pieces k) p = ap due (none_kept k p) ∙ ap (flat_map due_of) lossy-nil
ends_ascii (Slices s) p = slices_end s p
