-- Encodings of one or two bytes a character, as machines over bytes: a lead is kept until its trail comes.
use Rattle.std.specs.Prelude.{◌≡◌, ℕ, ◌<◌, ◌≤◌, Bool, true, false, nat_le, nat_lt, ◌&&◌, ◌==◌, Option, Some, None}
use Rattle.std.specs.Prelude.{List, [], ◌∷◌, ◌++◌, if◌then◌else◌}
use Rattle.std.specs.Char.{IsScalar}
use Rattle.std.proofs.Common.{ap, lit≤, arith}
use Rattle.std.proofs.lemmas.Bool.{cond-true}
use Rattle.std.proofs.lemmas.Bool.Decides.{nat_tests}
use Rattle.tendril_lossy.specs.Lossy.{Told, Char}
use Rattle.tendril_decode.specs.Characters.{KeepsAscii}
use Rattle.tendril_decode.specs.Machines.{Machine, invalid}
use Rattle.tendril_decode.specs.declared.steps.Step.{Step}
use Rattle.tendril_decode.specs.declared.steps.Step.TheVariants.{Scalar, Broken, BrokenBefore, Two as TwoScalars}
use Rattle.tendril_decode.specs.declared.two_bytes.First.{First}
use Rattle.tendril_decode.specs.declared.two_bytes.First.TheVariants.{Character, Lead, Malformed}
use Rattle.tendril_decode.specs.declared.two_bytes.Pair.{Pair}
use Rattle.tendril_decode.specs.declared.two_bytes.Pair.TheVariants.{One, Two, Absent}
use Rattle.tendril_decode.specs.declared.two_bytes.TwoBytes.{TwoBytes}

-- whether a number is in a range
abbrev pub in_range : ℕ → ℕ → ℕ → Bool
in_range first last b = nat_le first b && nat_le b last

-- what two bytes are by the entry of an index
abbrev pub pair_of : ℕ → Pair
pair_of c = if c == 0 then Absent else One c

-- the character of a single byte is in the basic plane, which needs at most three bytes of UTF-8
abbrev pub FitsFirst : First → Type 0
FitsFirst (Character c) = IsScalar c × (c < 0x1_0000)
FitsFirst Lead = Unit {0}
FitsFirst Malformed = Unit {0}

-- what a lead and a trail are has at most four bytes of UTF-8
abbrev pub FitsPair : Pair → Type 0
FitsPair (One c) = IsScalar c
FitsPair (Two c d) = IsScalar c × IsScalar d × (c < 0x800) × (d < 0x800)
FitsPair Absent = Unit {0}

abbrev pub is_lead : First → Bool
is_lead (Character c) = false
is_lead Lead = true
is_lead Malformed = false

abbrev pub tells_first : First → List Told
tells_first (Character c) = Char c ∷ []
tells_first Lead = []
tells_first Malformed = invalid

-- what a trail tells; an ASCII byte that is no trail is a character of its own
abbrev pub tells_pair : Pair → ℕ → List Told
tells_pair (One c) b = Char c ∷ []
tells_pair (Two c d) b = Char c ∷ Char d ∷ []
tells_pair Absent b = if nat_lt b 0x80 then invalid ++ (Char b ∷ []) else invalid

-- the decoder's step at a trail
abbrev pub step_of : Pair → ℕ → Step
step_of (One c) b = Scalar c
step_of (Two c d) b = TwoScalars c d
step_of Absent b = if nat_lt b 0x80 then BrokenBefore else Broken

abbrev pub lead_weight : Option ℕ → ℕ
lead_weight None = 0
lead_weight (Some l) = 1

abbrev pub weight : {E : Type 0} → TwoBytes E → ℕ
weight s = lead_weight s.lead

pub weight_few : {E : Type 0} (s : TwoBytes E) → weight s ≤ 4
weight_few s = few s.lead
  where
    few : (lead : Option ℕ) → lead_weight lead ≤ 4
    few None = lit≤ tt
    few (Some l) = lit≤ tt

-- the state in which this lead is kept, or none
abbrev pub with_lead : {E : Type 0} → Option ℕ → TwoBytes E
with_lead lead = record { lead = lead; encoding = record {} }

abbrev pub nothing_kept : {E : Type 0} → TwoBytes E
nothing_kept = with_lead None

-- a lead or a single byte that the end cuts off is malformed
abbrev pub ends_at : Option ℕ → List Told
ends_at None = []
ends_at (Some l) = invalid

-- `first` says what a byte from 0x80 on is
module _ (first : ℕ → First) where
  abbrev pub lead_after : Option ℕ → ℕ → Option ℕ
  lead_after None b = if nat_lt b 0x80 then None else (if is_lead (first b) then Some b else None)
  lead_after (Some l) b = None

  -- what is kept is a lead
  abbrev pub is_fit_lead : Option ℕ → Bool
  is_fit_lead None = true
  is_fit_lead (Some l) = is_lead (first l)

  abbrev pub is_fit : {E : Type 0} → TwoBytes E → Bool
  is_fit s = is_fit_lead s.lead

  -- `pair` says what a lead and a trail are
  module _ (pair : ℕ → ℕ → Pair) where
    abbrev pub tells_byte : Option ℕ → ℕ → List Told
    tells_byte None b = if nat_lt b 0x80 then Char b ∷ [] else tells_first (first b)
    tells_byte (Some l) b = tells_pair (pair l b) b

    abbrev pub two_bytes : {E : Type 0} → Machine (TwoBytes E)
    two_bytes = record {
      start = nothing_kept;
      step = λ s b. with_lead (lead_after s.lead b);
      tells = λ s b. tells_byte s.lead b;
      ends = λ s. ends_at s.lead;
    }

    pub keeps_ascii : {E : Type 0} → KeepsAscii {S = TwoBytes E} two_bytes nothing_kept
    keeps_ascii b h =
        let low : nat_lt b 0x80 ≡ true = grind (arith, nat_tests) in
        (cond-true _ _ _ low, ap with_lead (cond-true _ _ _ low))
