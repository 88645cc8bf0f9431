-- EUC-JP as a machine over bytes, by the standard's 'EUC-JP decoder'.
use Rattle.std.specs.Prelude.{ℕ, ◌+◌, ◌-◌, ◌*◌, ◌≤◌, Bool, ◌==◌, ◌&&◌, ◌||◌, nat_lt, List, [], ◌∷◌, slice_index}
use Rattle.std.specs.Prelude.{if◌then◌else◌}
use Rattle.std.proofs.Common.{◌≡◌, true, false, arith, lit≤}
use Rattle.std.proofs.lemmas.Bool.{cond-true, cond-false}
use Rattle.std.proofs.lemmas.Bool.Decides.{nat_tests}
use Rattle.tendril_decode.specs.Characters.{KeepsAscii}
use Rattle.tendril_lossy.specs.Lossy.{Told, Char}
use Rattle.tendril_decode.specs.Machines.{Machine, invalid}
use Rattle.tendril_decode.specs.TwoBytes.{in_range, pair_of, tells_pair}
use Rattle.tendril_decode.specs.declared.euc_jp.EucJp.{EucJp}
use Rattle.tendril_decode.specs.declared.euc_jp.EucJp.TheVariants.{Start, Lead, SecondLead}
use Rattle.tendril_decode.specs.declared.tables.jis0208.TheConstants.{JIS0208}
use Rattle.tendril_decode.specs.declared.tables.jis0212.TheConstants.{JIS0212}
use Rattle.tendril_decode.specs.declared.two_bytes.Pair.{Pair}
use Rattle.tendril_decode.specs.declared.two_bytes.Pair.TheVariants.{One, Absent}

-- a byte of a row or a cell of JIS X 0208 or JIS X 0212
abbrev pub is_cell : ℕ → Bool
is_cell b = in_range 0xA1 0xFE b

-- the first byte of two or three: 0x8E is before halfwidth katakana, and 0x8F before JIS X 0212
abbrev pub is_jp_lead : ℕ → Bool
is_jp_lead b = in_range 0x8E 0x8F b || is_cell b

-- a row and a cell
abbrev pub are_cells : ℕ → ℕ → Bool
are_cells l b = is_cell l && is_cell b

-- 0x8E, and a halfwidth katakana
abbrev pub is_katakana : ℕ → ℕ → Bool
is_katakana l b = (l == 0x8E) && in_range 0xA1 0xDF b

-- 0x8F, and a second of three bytes
abbrev pub begins_jis0212 : ℕ → ℕ → Bool
begins_jis0212 l b = (l == 0x8F) && is_cell b

-- what two bytes are by an index of rows of 94 cells
abbrev pub cell_pair : List ℕ → ℕ → ℕ → Pair
cell_pair index l b =
    if are_cells l b then pair_of (slice_index index ((l - 0xA1) * 94 + (b - 0xA1))) else Absent

-- what two bytes are
unfoldable pub jp_pair : ℕ → ℕ → Pair
jp_pair l b = if is_katakana l b then One (0xFF61 + (b - 0xA1)) else cell_pair JIS0208 l b

-- what two bytes after 0x8F are
unfoldable pub jis0212_pair : ℕ → ℕ → Pair
jis0212_pair l b = cell_pair JIS0212 l b

abbrev pub jp_step : EucJp → ℕ → EucJp
jp_step Start b = if is_jp_lead b then Lead b else Start
jp_step (Lead l) b = if begins_jis0212 l b then SecondLead b else Start
jp_step (SecondLead l) b = Start

abbrev pub jp_tells : EucJp → ℕ → List Told
jp_tells Start b = if nat_lt b 0x80 then Char b ∷ [] else (if is_jp_lead b then [] else invalid)
jp_tells (Lead l) b = if begins_jis0212 l b then [] else tells_pair (jp_pair l b) b
jp_tells (SecondLead l) b = tells_pair (jis0212_pair l b) b

-- bytes that the end cuts off are malformed
abbrev pub jp_ends : EucJp → List Told
jp_ends Start = []
jp_ends (Lead l) = invalid
jp_ends (SecondLead l) = invalid

abbrev pub euc_jp : Machine EucJp
euc_jp = record { start = Start; step = jp_step; tells = jp_tells; ends = jp_ends }

pub jp_keeps_ascii : KeepsAscii euc_jp Start
jp_keeps_ascii b h =
    let low : nat_lt b 0x80 ≡ true = grind (arith, nat_tests) in
    let no_lead : is_jp_lead b ≡ false = grind (arith, nat_tests) in
    (cond-true _ _ _ low, cond-false _ _ _ no_lead)

abbrev pub jp_weight : EucJp → ℕ
jp_weight Start = 0
jp_weight (Lead l) = 1
jp_weight (SecondLead l) = 1

pub jp_weight_few : (s : EucJp) → jp_weight s ≤ 4
jp_weight_few Start = lit≤ tt
jp_weight_few (Lead l) = lit≤ tt
jp_weight_few (SecondLead l) = lit≤ tt
