-- What bytes of the encodings of one byte output.
use Rattle.std.proofs.Common.{◌≡◌, ◌<◌, ◌≤◌, ℕ, List, [], ◌∷◌, length, ◌⊎◌, ⊎_elim, inl, inr, slice_index, ap, sym}
use Rattle.std.proofs.Common.{arith}
use Rattle.std.proofs.lemmas.Bool.{cases_lt}
use Rattle.std.proofs.lemmas.List.{length-take}
use Rattle.std.specs.Char.{IsScalar, encode_utf8}
use Rattle.std.specs.Int.{to_le_bytes, w32}
use Rattle.tendril_decode.specs.Machines.{invalid}
use Rattle.tendril_decode.specs.Packed.{ArePacked, IsPacked, entry_len}
use Rattle.tendril_decode.specs.Single.{table_of, tells_byte}
use Rattle.tendril_decode.proofs.PackedTables.{packed-ibm866, packed-iso_8859_10, packed-iso_8859_13}
use Rattle.tendril_decode.proofs.PackedTables.{packed-iso_8859_14, packed-iso_8859_15, packed-iso_8859_16}
use Rattle.tendril_decode.proofs.PackedTables.{packed-iso_8859_2, packed-iso_8859_3, packed-iso_8859_4}
use Rattle.tendril_decode.proofs.PackedTables.{packed-iso_8859_5, packed-iso_8859_6, packed-iso_8859_7}
use Rattle.tendril_decode.proofs.PackedTables.{packed-iso_8859_8, packed-koi8_r, packed-koi8_u, packed-macintosh}
use Rattle.tendril_decode.proofs.PackedTables.{packed-windows_1250, packed-windows_1251, packed-windows_1252}
use Rattle.tendril_decode.proofs.PackedTables.{packed-windows_1253, packed-windows_1254, packed-windows_1255}
use Rattle.tendril_decode.proofs.PackedTables.{packed-windows_1256, packed-windows_1257, packed-windows_1258}
use Rattle.tendril_decode.proofs.PackedTables.{packed-windows_874, packed-x_mac_cyrillic, packed-x_user_defined}
use Rattle.tendril_decode.specs.declared.single_byte.SingleByte.{SingleByte}
use Rattle.tendril_decode.specs.declared.single_byte.SingleByte.TheVariants.{Ibm866, Iso8859_2, Iso8859_3, Iso8859_4}
use Rattle.tendril_decode.specs.declared.single_byte.SingleByte.TheVariants.{Iso8859_5, Iso8859_6, Iso8859_7, Iso8859_8}
use Rattle.tendril_decode.specs.declared.single_byte.SingleByte.TheVariants.{Iso8859_8I, Iso8859_10, Iso8859_13}
use Rattle.tendril_decode.specs.declared.single_byte.SingleByte.TheVariants.{Iso8859_14, Iso8859_15, Iso8859_16, Koi8R}
use Rattle.tendril_decode.specs.declared.single_byte.SingleByte.TheVariants.{Koi8U, Macintosh, Windows874, Windows1250}
use Rattle.tendril_decode.specs.declared.single_byte.SingleByte.TheVariants.{Windows1251, Windows1252, Windows1253}
use Rattle.tendril_decode.specs.declared.single_byte.SingleByte.TheVariants.{Windows1254, Windows1255, Windows1256}
use Rattle.tendril_decode.specs.declared.single_byte.SingleByte.TheVariants.{Windows1257, Windows1258, XMacCyrillic}
use Rattle.tendril_decode.specs.declared.single_byte.SingleByte.TheVariants.{XUserDefined}
use Rattle.tendril_lossy.specs.Lossy.{Told, Char}

-- each encoding has packed entries
packed_of : (e : SingleByte) → (entries : List ℕ) × ArePacked (table_of e) entries
packed_of Ibm866 = (_, packed-ibm866)
packed_of Iso8859_2 = (_, packed-iso_8859_2)
packed_of Iso8859_3 = (_, packed-iso_8859_3)
packed_of Iso8859_4 = (_, packed-iso_8859_4)
packed_of Iso8859_5 = (_, packed-iso_8859_5)
packed_of Iso8859_6 = (_, packed-iso_8859_6)
packed_of Iso8859_7 = (_, packed-iso_8859_7)
packed_of Iso8859_8 = (_, packed-iso_8859_8)
packed_of Iso8859_8I = (_, packed-iso_8859_8)
packed_of Iso8859_10 = (_, packed-iso_8859_10)
packed_of Iso8859_13 = (_, packed-iso_8859_13)
packed_of Iso8859_14 = (_, packed-iso_8859_14)
packed_of Iso8859_15 = (_, packed-iso_8859_15)
packed_of Iso8859_16 = (_, packed-iso_8859_16)
packed_of Koi8R = (_, packed-koi8_r)
packed_of Koi8U = (_, packed-koi8_u)
packed_of Macintosh = (_, packed-macintosh)
packed_of Windows874 = (_, packed-windows_874)
packed_of Windows1250 = (_, packed-windows_1250)
packed_of Windows1251 = (_, packed-windows_1251)
packed_of Windows1252 = (_, packed-windows_1252)
packed_of Windows1253 = (_, packed-windows_1253)
packed_of Windows1254 = (_, packed-windows_1254)
packed_of Windows1255 = (_, packed-windows_1255)
packed_of Windows1256 = (_, packed-windows_1256)
packed_of Windows1257 = (_, packed-windows_1257)
packed_of Windows1258 = (_, packed-windows_1258)
packed_of XMacCyrillic = (_, packed-x_mac_cyrillic)
packed_of XUserDefined = (_, packed-x_user_defined)

-- a malformed sequence, or a scalar value of at most three bytes in UTF-8
abbrev pub TellsFew : List Told → Type 0
TellsFew told = (told ≡ invalid)
    ⊎ ((c : ℕ) × IsScalar c × (length (encode_utf8 c) ≤ 3) × (told ≡ Char c ∷ []))

few_packed : (table : List ℕ) (b e : ℕ) → IsPacked table b e → TellsFew (tells_byte table b)
few_packed table b e p = ⊎_elim
    (λ some.
    let k = p.char some in
    inr (
      k.0,
      k.1,
      omega (arith, sym (ap length k.3), length-take (entry_len e) (to_le_bytes w32 e), p.few),
      k.2,
    ))
    (λ none. inl (p.broken (omega arith)))
    (cases_lt 0 (entry_len e))

pub few_told : (e : SingleByte) (b : ℕ) → b < 256 → TellsFew (tells_byte (table_of e) b)
few_told e b h = let t = packed_of e in few_packed (table_of e) b (slice_index t.0 b) (t.1.each b h)
