-- UTF-16 as a machine over bytes, in either byte order.
use Rattle.std.specs.Prelude.{ℕ, ◌+◌, ◌*◌, ◌≤◌, Bool, true, Option, Some, None, List, [], ◌∷◌, ◌++◌}
use Rattle.std.specs.Prelude.{if◌then◌else◌}
use Rattle.std.specs.Char.Utf16.{is_high_surrogate, is_low_surrogate, surrogate_pair_char}
use Rattle.std.proofs.Common.{lit≤}
use Rattle.tendril_lossy.specs.Lossy.{Told, Char}
use Rattle.tendril_decode.specs.Machines.{Machine, invalid}
use Rattle.tendril_decode.specs.declared.utf16.Utf16.{Utf16}

-- the unit of two bytes
abbrev pub unit_of : Bool → ℕ → ℕ → ℕ
unit_of big a b = if big then 256 * a + b else a + 256 * b

-- the kept lead, if there is one, is a lead surrogate
abbrev pub is_fit_lead : Option ℕ → Bool
is_fit_lead None = true
is_fit_lead (Some l) = is_high_surrogate l

abbrev pub is_fit : {n : ℕ} → Utf16 n → Bool
is_fit s = is_fit_lead s.lead

-- Where a lead turns out to have no trail, nothing is read, and the lead is dropped.
abbrev pub lead_weight : Option ℕ → ℕ
lead_weight None = 0
lead_weight (Some l) = 1

abbrev pub weight : {n : ℕ} → Utf16 n → ℕ
weight s = lead_weight s.lead

pub weight_few : {n : ℕ} (s : Utf16 n) → weight s ≤ 4
weight_few s = few s.lead
  where
    few : (lead : Option ℕ) → lead_weight lead ≤ 4
    few None = lit≤ tt
    few (Some l) = lit≤ tt

-- the lead that is kept after a unit
abbrev pub lead_after : ℕ → Option ℕ
lead_after u = if is_high_surrogate u then Some u else None

-- what a unit tells after no lead
abbrev pub tells_alone : ℕ → List Told
tells_alone u = if is_high_surrogate u then [] else (if is_low_surrogate u then invalid else Char u ∷ [])

-- what a unit tells after a lead, if there is one: a lead with no trail after it is malformed
abbrev pub tells_unit : Option ℕ → ℕ → List Told
tells_unit None u = tells_alone u
tells_unit (Some l) u = if is_low_surrogate u then Char (surrogate_pair_char l u) ∷ [] else invalid ++ tells_alone u

abbrev pub step_byte : {n : ℕ} → Bool → Option ℕ → Option ℕ → ℕ → Utf16 n
step_byte big lead None b = record { lead = lead; odd = Some b }
step_byte big lead (Some a) b = record { lead = lead_after (unit_of big a b); odd = None }

abbrev pub tells_byte : Bool → Option ℕ → Option ℕ → ℕ → List Told
tells_byte big lead None b = []
tells_byte big lead (Some a) b = tells_unit lead (unit_of big a b)

-- a lead, a single byte, or both at the end of the stream are one malformed sequence
abbrev pub ends_at : Option ℕ → Option ℕ → List Told
ends_at None None = []
ends_at (Some l) o = invalid
ends_at None (Some a) = invalid

abbrev pub utf16 : {n : ℕ} → Bool → Machine (Utf16 n)
utf16 big = record {
  start = record { lead = None; odd = None };
  step = λ s b. step_byte big s.lead s.odd b;
  tells = λ s b. tells_byte big s.lead s.odd b;
  ends = λ s. ends_at s.lead s.odd;
}
