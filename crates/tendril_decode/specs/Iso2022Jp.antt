-- ISO-2022-JP: 'ISO-2022-JP decoder' of the Encoding Standard, as a machine over bytes.
use Rattle.std.specs.Prelude.{ℕ, ◌+◌, ◌-◌, ◌*◌, ◌≤◌, Bool, true, false, ◌&&◌, ◌||◌, ◌==◌, nat_lt, nat_le}
use Rattle.std.specs.Prelude.{Option, Some, None, List, [], ◌∷◌, ◌++◌, slice_index, if◌then◌else◌}
use Rattle.std.proofs.Common.{lit≤}
use lib.Utf8.{scalar}
use Rattle.tendril_lossy.specs.Lossy.{Told, Char}
use Rattle.tendril_decode.specs.Machines.{Machine, invalid}
use Rattle.tendril_decode.specs.Single.{tells_entry}
use Rattle.tendril_decode.specs.TwoBytes.{in_range}
use Rattle.tendril_decode.specs.declared.iso_2022_jp.Iso2022Jp.{Iso2022Jp}
use Rattle.tendril_decode.specs.declared.iso_2022_jp.Kept.{Kept}
use Rattle.tendril_decode.specs.declared.iso_2022_jp.Kept.TheVariants.{Nothing, Lead, Escape, EscapeAnd, Owed}
use Rattle.tendril_decode.specs.declared.iso_2022_jp.Set.{Set}
use Rattle.tendril_decode.specs.declared.iso_2022_jp.Set.TheVariants.{Ascii, Roman, Katakana, Jis0208}
use Rattle.tendril_decode.specs.declared.tables.jis0208.TheConstants.{JIS0208}

-- the byte that begins an escape sequence
abbrev pub is_escape : ℕ → Bool
is_escape b = b == 0x1B

-- its second byte
abbrev pub is_escape_second : ℕ → Bool
is_escape_second b = b == 0x24 || b == 0x28

-- the set that an escape sequence selects by its second and third byte
abbrev pub escaped : ℕ → ℕ → Option Set
escaped a b =
    if a == 0x28
    then (if b == 0x42 then Some Ascii
    else (if b == 0x4A then Some Roman else (if b == 0x49 then Some Katakana else None)))
    else (if b == 0x40 || b == 0x42 then Some Jis0208 else None)

-- a byte of a character of two bytes
abbrev pub is_jis : ℕ → Bool
is_jis b = in_range 0x21 0x7E b

-- the character of two bytes by the index jis0208, or 0
unfoldable pub jis_code : ℕ → ℕ → ℕ
jis_code l b = if is_jis b then slice_index JIS0208 ((l - 0x21) * 94 + (b - 0x21)) else 0

-- the character of a byte in a set
abbrev pub ascii_code : ℕ → Option ℕ
ascii_code b = if nat_le 0x80 b || (b == 0x0E || b == 0x0F) then None else Some b

abbrev pub single_code : Set → ℕ → Option ℕ
single_code Ascii b = ascii_code b
single_code Roman b = if b == 0x5C then Some 0xA5 else (if b == 0x7E then Some 0x203E else ascii_code b)
single_code Katakana b = if in_range 0x21 0x5F b then Some (0xFF61 + (b - 0x21)) else None
single_code Jis0208 b = None

-- the first of two bytes
abbrev pub is_set_lead : Set → ℕ → Bool
is_set_lead Ascii b = false
is_set_lead Roman b = false
is_set_lead Katakana b = false
is_set_lead Jis0208 b = is_jis b

abbrev pub tells_single : Option ℕ → List Told
tells_single None = invalid
tells_single (Some c) = Char c ∷ []

-- a byte where nothing is kept
abbrev pub tells_plain : Set → ℕ → List Told
tells_plain set b = if is_escape b || is_set_lead set b then [] else tells_single (single_code set b)

abbrev pub next_plain : Set → Bool → ℕ → Iso2022Jp
next_plain set fresh b = record {
  set = set;
  kept = if is_escape b then Escape else (if is_set_lead set b then Lead b else Nothing);
  fresh = if is_escape b then fresh else false;
}

-- a byte after a lead: where it is an escape byte, the lead is malformed
abbrev pub tells_trail : ℕ → ℕ → List Told
tells_trail l b = tells_entry (jis_code l b)

abbrev pub next_trail : Set → Bool → ℕ → Iso2022Jp
next_trail set fresh b = record { set = set; kept = if is_escape b then Escape else Nothing; fresh = fresh }

-- a byte after an escape byte: if it is no second byte of an escape sequence, it is put back
abbrev pub tells_second : Set → ℕ → List Told
tells_second set b = if is_escape_second b then [] else invalid ++ tells_plain set b

abbrev pub next_second : Set → Bool → ℕ → Iso2022Jp
next_second set fresh b =
    if is_escape_second b then record { set = set; kept = EscapeAnd b; fresh = fresh } else next_plain set false b

-- A byte after two bytes of an escape sequence: if it isn't the third, it and the second are put back. A sequence right
-- after another one is an error, and selects its set all the same.
abbrev pub tells_third : Set → Bool → Option Set → ℕ → ℕ → List Told
tells_third set fresh None a b =
    invalid ++ (if is_set_lead set a then tells_trail a b else tells_plain set a ++ tells_plain set b)
tells_third set fresh (Some other) a b = if fresh then invalid else []

abbrev pub next_third : Set → Option Set → ℕ → ℕ → Iso2022Jp
next_third set None a b = if is_set_lead set a then next_trail set false b else next_plain set false b
next_third set (Some other) a b = record { set = other; kept = Nothing; fresh = true }

-- a second byte that was put back and is owed tells its character before all else
abbrev pub tells_kept : Set → Kept → Bool → ℕ → List Told
tells_kept set Nothing fresh b = tells_plain set b
tells_kept set (Lead l) fresh b = tells_trail l b
tells_kept set Escape fresh b = tells_second set b
tells_kept set (EscapeAnd a) fresh b = tells_third set fresh (escaped a b) a b
tells_kept set (Owed c) fresh b = Char c ∷ tells_plain set b

abbrev pub next_kept : Set → Kept → Bool → ℕ → Iso2022Jp
next_kept set Nothing fresh b = next_plain set fresh b
next_kept set (Lead l) fresh b = next_trail set fresh b
next_kept set Escape fresh b = next_second set fresh b
next_kept set (EscapeAnd a) fresh b = next_third set (escaped a b) a b
next_kept set (Owed c) fresh b = next_plain set fresh b

-- what the end of the stream tells: of an escape sequence that isn't complete, the second byte is put back
abbrev pub ends_set : Set → Kept → List Told
ends_set set Nothing = []
ends_set set (Lead l) = invalid
ends_set set Escape = invalid
ends_set set (EscapeAnd a) = invalid ++ (if is_set_lead set a then invalid else tells_plain set a)
ends_set set (Owed c) = Char c ∷ []

abbrev pub iso_2022_jp : Machine Iso2022Jp
iso_2022_jp = record {
  start = record { set = Ascii; kept = Nothing; fresh = false };
  step = λ s b. next_kept s.set s.kept s.fresh b;
  tells = λ s b. tells_kept s.set s.kept s.fresh b;
  ends = λ s. ends_set s.set s.kept;
}

-- within a set, where nothing is kept
abbrev pub resting : Set → Iso2022Jp
resting set = record { set = set; kept = Nothing; fresh = false }

-- the second byte of an escape sequence, put back: a character, or a lead
abbrev pub put_back_as : Option ℕ → ℕ → Kept
put_back_as None a = Lead a
put_back_as (Some c) a = Owed c

abbrev pub is_set_fit : Kept → Bool
is_set_fit Nothing = true
is_set_fit (Lead l) = is_jis l
is_set_fit Escape = true
is_set_fit (EscapeAnd a) = is_escape_second a
is_set_fit (Owed c) = scalar c && nat_lt c 0x1_0000

abbrev pub is_fit : Iso2022Jp → Bool
is_fit s = is_set_fit s.kept

-- Where an escape sequence turns out to be malformed, its second byte is a lead, or is owed as a character of at most
-- three bytes.
abbrev pub set_weight : Kept → ℕ
set_weight Nothing = 0
set_weight (Lead l) = 0
set_weight Escape = 1
set_weight (EscapeAnd a) = 4
set_weight (Owed c) = 3

abbrev pub weight : Iso2022Jp → ℕ
weight s = set_weight s.kept

pub weight_few : (s : Iso2022Jp) → weight s ≤ 4
weight_few s = few s.kept
  where
    few : (kept : Kept) → set_weight kept ≤ 4
    few Nothing = lit≤ tt
    few (Lead l) = lit≤ tt
    few Escape = lit≤ tt
    few (EscapeAnd a) = lit≤ tt
    few (Owed c) = lit≤ tt
