use Rattle.std.proofs.Common.{◌≡◌, ℕ, List, true, false, refl, sym, subst}
use Rattle.tendril_lossy.specs.Lossy.{Told}
use Rattle.tendril_decode.specs.Any.{any_machine}
use Rattle.tendril_decode.specs.Big5.{big5_first, big5_pair}
use Rattle.tendril_decode.specs.EucJp.{euc_jp}
use Rattle.tendril_decode.specs.EucKr.{kr_first, kr_pair}
use Rattle.tendril_decode.specs.Gb18030.{gb18030}
use Rattle.tendril_decode.specs.Iso2022Jp.{iso_2022_jp}
use Rattle.tendril_decode.specs.Machines.{Machine, DecodesTo}
use Rattle.tendril_decode.specs.Replacement.{replacement}
use Rattle.tendril_decode.specs.ShiftJis.{sjis_first, sjis_pair}
use Rattle.tendril_decode.specs.Single.{single_byte}
use Rattle.tendril_decode.specs.TwoBytes.{two_bytes}
use Rattle.tendril_decode.specs.Utf16.{utf16}
use Rattle.tendril_decode.specs.declared.any_decoder.AnyDecoder.{AnyDecoder}
use Rattle.tendril_decode.specs.declared.any_decoder.AnyDecoder.TheVariants.{Single, Big5, EucJp, EucKr, Gb18030}
use Rattle.tendril_decode.specs.declared.any_decoder.AnyDecoder.TheVariants.{Iso2022Jp, ShiftJis, Utf16Le}
use Rattle.tendril_decode.specs.declared.any_decoder.AnyDecoder.TheVariants.{Utf16Be, Replacement}
use Rattle.tendril_decode.specs.declared.single_byte.SingleByte.TheVariants.{Windows1252}
use Rattle.tendril_decode.proofs.Embeddings.{DecodesTo-embed}
use Rattle.tendril_decode.proofs.any_decoder.AnyDecoderDecode.decode.Goals as goal

abbrev machine : Machine AnyDecoder
machine = any_machine (Replacement (record { seen = false }))

-- what a variant's own machine decodes, the machine of all variants decodes too
of_variant : {S : Type 0} (m : Machine S) (variant : S → AnyDecoder)
    → ((s : S) (b : ℕ) → machine.step (variant s) b ≡ variant (m.step s b))
    → ((s : S) (b : ℕ) → machine.tells (variant s) b ≡ m.tells s b)
    → (self : AnyDecoder) (s t : S) (input text rest : List ℕ) (marks : List Told) → self ≡ variant s
    → DecodesTo m s input text marks t rest → DecodesTo machine self input text marks (variant t) rest
of_variant m variant steps tells self s t input text rest marks is d =
    subst (λ u. DecodesTo machine u input text marks (variant t) rest) (sym is)
    (DecodesTo-embed m machine variant steps tells s t input text rest marks d)

pub returns-in-Single-clause-decodes : goal.returns-in-Single-clause-decodes
returns-in-Single-clause-decodes c =
    of_variant (single_byte Windows1252) Single (λ s b. refl) (λ s b. refl) _ _ _ _ _ _ _ c.in-Single.is
    c.decode.ensures.decodes

pub returns-in-Big5-clause-decodes : goal.returns-in-Big5-clause-decodes
returns-in-Big5-clause-decodes c =
    of_variant (two_bytes big5_first big5_pair) Big5 (λ s b. refl) (λ s b. refl) _ _ _ _ _ _ _ c.in-Big5.is
    c.decode-in-Big5.ensures.decodes

pub returns-in-EucJp-clause-decodes : goal.returns-in-EucJp-clause-decodes
returns-in-EucJp-clause-decodes c =
    of_variant euc_jp EucJp (λ s b. refl) (λ s b. refl) _ _ _ _ _ _ _ c.in-EucJp.is
    c.decode-in-EucJp.ensures.decodes

pub returns-in-EucKr-clause-decodes : goal.returns-in-EucKr-clause-decodes
returns-in-EucKr-clause-decodes c =
    of_variant (two_bytes kr_first kr_pair) EucKr (λ s b. refl) (λ s b. refl) _ _ _ _ _ _ _ c.in-EucKr.is
    c.decode-in-EucKr.ensures.decodes

pub returns-in-Gb18030-clause-decodes : goal.returns-in-Gb18030-clause-decodes
returns-in-Gb18030-clause-decodes c =
    of_variant gb18030 Gb18030 (λ s b. refl) (λ s b. refl) _ _ _ _ _ _ _ c.in-Gb18030.is
    c.decode-in-Gb18030.ensures.decodes

pub returns-in-Iso2022Jp-clause-decodes : goal.returns-in-Iso2022Jp-clause-decodes
returns-in-Iso2022Jp-clause-decodes c =
    of_variant iso_2022_jp Iso2022Jp (λ s b. refl) (λ s b. refl) _ _ _ _ _ _ _ c.in-Iso2022Jp.is
    c.decode-in-Iso2022Jp.ensures.decodes

pub returns-in-ShiftJis-clause-decodes : goal.returns-in-ShiftJis-clause-decodes
returns-in-ShiftJis-clause-decodes c =
    of_variant (two_bytes sjis_first sjis_pair) ShiftJis (λ s b. refl) (λ s b. refl) _ _ _ _ _ _ _ c.in-ShiftJis.is
    c.decode-in-ShiftJis.ensures.decodes

pub returns-in-Utf16Le-clause-decodes : goal.returns-in-Utf16Le-clause-decodes
returns-in-Utf16Le-clause-decodes c =
    of_variant (utf16 false) Utf16Le (λ s b. refl) (λ s b. refl) _ _ _ _ _ _ _ c.in-Utf16Le.is
    c.decode-in-Utf16Le.ensures.decodes

pub returns-in-Utf16Be-clause-decodes : goal.returns-in-Utf16Be-clause-decodes
returns-in-Utf16Be-clause-decodes c =
    of_variant (utf16 true) Utf16Be (λ s b. refl) (λ s b. refl) _ _ _ _ _ _ _ c.in-Utf16Be.is
    c.decode-in-Utf16Be.ensures.decodes

pub returns-in-Replacement-clause-decodes : goal.returns-in-Replacement-clause-decodes
returns-in-Replacement-clause-decodes c =
    of_variant replacement Replacement (λ s b. refl) (λ s b. refl) _ _ _ _ _ _ _ c.in-Replacement.is
    c.decode-in-Replacement.ensures.decodes
