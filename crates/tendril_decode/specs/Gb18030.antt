-- gb18030 and GBK, which is decoded alike: 'gb18030 decoder' of the Encoding Standard, as a machine over bytes.
use Rattle.std.specs.Prelude.{ℕ, ◌+◌, ◌-◌, ◌*◌, ◌≤◌, Bool, true, ◌&&◌, ◌||◌, ◌==◌, nat_lt, nat_le, Option, Some, None}
use Rattle.std.specs.Prelude.{List, [], ◌∷◌, ◌++◌, slice_index, if◌then◌else◌}
use Rattle.std.proofs.Common.{ap, lit≤}
use Rattle.std.proofs.lemmas.Bool.{cond-true, lt-ltb}
use Rattle.tendril_lossy.specs.Lossy.{Told, Char}
use Rattle.tendril_decode.specs.Characters.{KeepsAscii}
use Rattle.tendril_decode.specs.Machines.{Machine, invalid}
use Rattle.tendril_decode.specs.Single.{tells_entry}
use Rattle.tendril_decode.specs.TwoBytes.{in_range}
use Rattle.tendril_decode.specs.declared.gb18030.Gb18030.{Gb18030}
use Rattle.tendril_decode.specs.declared.gb18030.Kept.{Kept}
use Rattle.tendril_decode.specs.declared.gb18030.Kept.TheVariants.{Nothing, First, Second, Third}
use Rattle.tendril_decode.specs.declared.tables.gb18030.TheConstants.{GB18030}
use Rattle.tendril_decode.specs.declared.tables.gb18030_ranges.TheConstants.{GB18030_RANGES}

-- the first byte of a sequence, and the third one of four
abbrev pub is_lead : ℕ → Bool
is_lead b = in_range 0x81 0xFE b

-- the second byte of a sequence of four, and the fourth one
abbrev pub is_digit : ℕ → Bool
is_digit b = in_range 0x30 0x39 b

-- the second byte of two
abbrev pub is_trail : ℕ → Bool
is_trail b = in_range 0x40 0x7E b || in_range 0x80 0xFE b

-- the place of a second byte in its row
abbrev pub trail_cell : ℕ → ℕ
trail_cell b = if nat_lt b 0x7F then b - 0x40 else b - 0x41

-- the character of two bytes by the index gb18030, or 0
unfoldable pub two_bytes_code : ℕ → ℕ → ℕ
two_bytes_code first b = if is_trail b then slice_index GB18030 ((first - 0x81) * 190 + trail_cell b) else 0

-- the character of a pointer by the last of these ranges that begins at it or before; if none does, the given one
unfoldable pub range_code : ℕ → List (ℕ × ℕ) → ℕ → ℕ
range_code code [] p = code
range_code code (r ∷ rs) p = if nat_le r.0 p then range_code (r.1 + (p - r.0)) rs p else code

-- the 'index gb18030 ranges code point' of a pointer, or 0
unfoldable pub ranges_code : ℕ → ℕ
ranges_code p =
    if (nat_lt 39419 p && nat_lt p 189000) || nat_lt 1237575 p then 0
    else (if p == 7457 then 0xE7C7 else range_code 0 GB18030_RANGES p)

-- the pointer of four bytes
abbrev pub four_bytes_pointer : ℕ → ℕ → ℕ → ℕ → ℕ
four_bytes_pointer first second third b =
    (first - 0x81) * 12600 + (second - 0x30) * 1260 + (third - 0x81) * 10 + (b - 0x30)

-- a byte where nothing is kept
abbrev pub kept_at_start : ℕ → Kept
kept_at_start b = if nat_lt b 0x80 then Nothing else (if is_lead b then First b else Nothing)

abbrev pub tells_at_start : ℕ → List Told
tells_at_start b =
    if nat_lt b 0x80 then Char b ∷ []
    else (if b == 0x80 then Char 0x20AC ∷ [] else (if is_lead b then [] else invalid))

-- a byte after the first one of a sequence: if it is ASCII and they have no character, it is put back
abbrev pub kept_after_first : ℕ → ℕ → Kept
kept_after_first first b = if is_digit b then Second first b else Nothing

abbrev pub tells_two_bytes : ℕ → ℕ → List Told
tells_two_bytes c b = if c == 0 && nat_lt b 0x80 then invalid ++ (Char b ∷ []) else tells_entry c

abbrev pub tells_after_first : ℕ → ℕ → List Told
tells_after_first first b = if is_digit b then [] else tells_two_bytes (two_bytes_code first b) b

-- a byte after two bytes of a sequence of four: if it isn't the third one, it and the second one are put back
abbrev pub kept_after_second : ℕ → ℕ → ℕ → Kept
kept_after_second first second b = if is_lead b then Third first second b else kept_at_start b

abbrev pub tells_after_second : ℕ → ℕ → List Told
tells_after_second second b = if is_lead b then [] else invalid ++ (Char second ∷ tells_at_start b)

-- a byte after three bytes of a sequence of four: if it isn't the fourth one, it and the last two of them are put back
abbrev pub kept_after_third : ℕ → ℕ → Kept
kept_after_third third b = if is_digit b then Nothing else kept_after_first third b

abbrev pub tells_after_third : ℕ → ℕ → ℕ → ℕ → List Told
tells_after_third first second third b =
    if is_digit b then tells_entry (ranges_code (four_bytes_pointer first second third b))
    else invalid ++ (Char second ∷ tells_after_first third b)

abbrev pub kept_after : Kept → ℕ → Kept
kept_after Nothing b = kept_at_start b
kept_after (First first) b = kept_after_first first b
kept_after (Second first second) b = kept_after_second first second b
kept_after (Third first second third) b = kept_after_third third b

abbrev pub tells_byte : Kept → ℕ → List Told
tells_byte Nothing b = tells_at_start b
tells_byte (First first) b = tells_after_first first b
tells_byte (Second first second) b = tells_after_second second b
tells_byte (Third first second third) b = tells_after_third first second third b

-- what the end of the stream tells: a sequence that isn't complete is malformed
abbrev pub ends_kept : Kept → List Told
ends_kept Nothing = []
ends_kept (First first) = invalid
ends_kept (Second first second) = invalid
ends_kept (Third first second third) = invalid

-- a byte that was put back and is owed tells itself before all else
abbrev pub tells_owed : Option ℕ → List Told
tells_owed None = []
tells_owed (Some d) = Char d ∷ []

abbrev pub gb18030 : Machine Gb18030
gb18030 = record {
  start = record { owed = None; kept = Nothing };
  step = λ s b. record { owed = None; kept = kept_after s.kept b };
  tells = λ s b. tells_owed s.owed ++ tells_byte s.kept b;
  ends = λ s. tells_owed s.owed ++ ends_kept s.kept;
}

abbrev pub keeping : Kept → Gb18030
keeping kept = record { owed = None; kept = kept }

pub keeps_ascii : KeepsAscii gb18030 gb18030.start
keeps_ascii b h = (cond-true _ _ _ (lt-ltb b 0x80 h), ap keeping (cond-true _ _ _ (lt-ltb b 0x80 h)))

-- what is owed is a digit
abbrev pub is_owed_fit : Option ℕ → Bool
is_owed_fit None = true
is_owed_fit (Some d) = is_digit d

-- what is kept begins a sequence
abbrev pub is_kept_fit : Kept → Bool
is_kept_fit Nothing = true
is_kept_fit (First first) = is_lead first
is_kept_fit (Second first second) = is_lead first && is_digit second
is_kept_fit (Third first second third) = is_lead first && (is_digit second && is_lead third)

abbrev pub is_fit : Gb18030 → Bool
is_fit s = is_owed_fit s.owed && is_kept_fit s.kept

-- Where a sequence turns out to be malformed, its second byte is owed, and a third one is kept as the first of another.
abbrev pub owed_weight : Option ℕ → ℕ
owed_weight None = 0
owed_weight (Some d) = 1

abbrev pub kept_weight : Kept → ℕ
kept_weight Nothing = 0
kept_weight (First first) = 1
kept_weight (Second first second) = 2
kept_weight (Third first second third) = 3

abbrev pub weight : Gb18030 → ℕ
weight s = owed_weight s.owed + kept_weight s.kept

pub weight_few : (s : Gb18030) → weight s ≤ 4
weight_few s = few s.owed s.kept
  where
    few : (owed : Option ℕ) (kept : Kept) → owed_weight owed + kept_weight kept ≤ 4
    few None Nothing = lit≤ tt
    few None (First first) = lit≤ tt
    few None (Second first second) = lit≤ tt
    few None (Third first second third) = lit≤ tt
    few (Some d) Nothing = lit≤ tt
    few (Some d) (First first) = lit≤ tt
    few (Some d) (Second first second) = lit≤ tt
    few (Some d) (Third first second third) = lit≤ tt
