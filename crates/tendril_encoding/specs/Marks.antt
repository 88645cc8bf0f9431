-- Byte order marks at the start of a stream, byte by byte.
use Rattle.std.specs.Prelude.{ℕ, Bool, true, false, ◌&&◌, ◌==◌, List, [], ◌∷◌, Option, Some, None}
use Rattle.std.specs.Prelude.{if◌then◌else◌}
use Rattle.tendril_encoding.specs.declared.mark.BomHandling.{BomHandling}
use Rattle.tendril_encoding.specs.declared.mark.BomHandling.TheVariants.{Sniff, Remove, Keep}
use Rattle.tendril_encoding.specs.declared.mark.Mark.TheVariants.{OfUtf8, OfUtf16Le, OfUtf16Be}
use Rattle.tendril_encoding.specs.declared.mark.Marks.{Marks}
use Rattle.tendril_encoding.specs.declared.mark.Seen.{Seen}
use Rattle.tendril_encoding.specs.declared.mark.Seen.TheVariants.{Nothing, Ef, EfBb, Ff, Fe}
use Rattle.tendril_encoding.specs.declared.mark.Sniffed.{Sniffed}
use Rattle.tendril_labels.specs.declared.encoding.Encoding.{Encoding}
use Rattle.tendril_labels.specs.declared.encoding.Encoding.TheVariants.{Utf8, Utf16Le, Utf16Be}
use Rattle.tendril_encoding.specs.declared.mark.Sniffed.TheVariants.{Waits, Marked, Plain}

-- the bytes of a prefix of a mark
abbrev pub seen_bytes : Seen → List ℕ
seen_bytes Nothing = []
seen_bytes Ef = 0xEF ∷ []
seen_bytes EfBb = 0xEF ∷ 0xBB ∷ []
seen_bytes Ff = 0xFF ∷ []
seen_bytes Fe = 0xFE ∷ []

abbrev pub is_nothing : Seen → Bool
is_nothing Nothing = true
is_nothing other = false

-- what the first byte of a stream shows, if these marks are looked for
abbrev pub first_byte : Marks → ℕ → Sniffed
first_byte marks b =
    if marks.utf8 && b == 0xEF then Waits Ef
    else (if marks.utf16_le && b == 0xFF then Waits Ff
    else (if marks.utf16_be && b == 0xFE then Waits Fe else Plain))

-- What a byte shows after a prefix of a mark: a longer prefix, a whole mark, or that there is no mark.
abbrev pub sniffed : Marks → Seen → ℕ → Sniffed
sniffed marks Nothing b = first_byte marks b
sniffed marks Ef b = if b == 0xBB then Waits EfBb else Plain
sniffed marks EfBb b = if b == 0xBF then Marked OfUtf8 else Plain
sniffed marks Ff b = if b == 0xFE then Marked OfUtf16Le else Plain
sniffed marks Fe b = if b == 0xFF then Marked OfUtf16Be else Plain

-- the marks that are looked for: all, the encoding's own, or none
abbrev own_mark : Encoding → Option Marks
own_mark Utf8 = Some (record { utf8 = true; utf16_le = false; utf16_be = false })
own_mark Utf16Le = Some (record { utf8 = false; utf16_le = true; utf16_be = false })
own_mark Utf16Be = Some (record { utf8 = false; utf16_le = false; utf16_be = true })
own_mark other = None

abbrev pub marks_for : Encoding → BomHandling → Option Marks
marks_for encoding Sniff = Some (record { utf8 = true; utf16_le = true; utf16_be = true })
marks_for encoding Remove = own_mark encoding
marks_for encoding Keep = None
