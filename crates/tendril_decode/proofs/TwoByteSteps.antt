-- Steps of the decoders that keep a lead until its trail comes.
use Rattle.std.proofs.Common.{◌≡◌, ℕ, ◌+◌, ◌<◌, ◌≤◌, Bool, true, false, List, [], ◌∷◌, ◌++◌, length, slice_index}
use Rattle.std.proofs.Common.{refl, sym, ap, ap₂, subst, ◌∙◌, arith, append-nil}
use Rattle.std.specs.Char.{IsScalar}
use Rattle.std.specs.Prelude.{nat_lt, Some, None}
use Rattle.std.proofs.lemmas.Bool.{cond-true, cond-false}
use Rattle.std.proofs.lemmas.Bool.Decides.{nat_tests}
use Rattle.tendril_decode.specs.Characters.{IsCharacter, KeepsAscii}
use Rattle.tendril_decode.specs.Machines.{Machine, invalid}
use Rattle.tendril_decode.specs.Steps.{IsStep}
use Rattle.tendril_decode.specs.TwoBytes.{FitsPair, is_lead, with_lead, nothing_kept, step_of, tells_first, tells_pair}
use Rattle.tendril_decode.specs.TwoBytes.{keeps_ascii, lead_after, lead_weight, tells_byte, two_bytes, weight}
use Rattle.tendril_decode.specs.declared.steps.Step.{Step}
use Rattle.tendril_decode.specs.declared.steps.Step.TheVariants.{Scalar}
use Rattle.tendril_decode.specs.declared.two_bytes.First.{First}
use Rattle.tendril_decode.specs.declared.two_bytes.First.TheVariants.{Character, Lead}
use Rattle.tendril_decode.specs.declared.two_bytes.Pair.{Pair}
use Rattle.tendril_decode.specs.declared.two_bytes.Pair.TheVariants.{One, Two, Absent}
use Rattle.tendril_decode.specs.declared.two_bytes.TwoBytes.{TwoBytes}
use Rattle.tendril_decode.proofs.CharacterSteps.{character_from, next_one, next_two}
use Rattle.tendril_decode.proofs.Lengths.{two_at_most, three_at_most, four_at_most}

-- a trail, in any machine that keeps nothing after it
module _ {S : Type 0} (m : Machine S) (weight : S → ℕ) (s t : S) (b : ℕ) (goes : m.step s b ≡ t)
    (keeps : KeepsAscii m t) (light : weight t ≡ 0) (heavy : weight s ≡ 1) where
  absent_step : (low : Bool) → nat_lt b 0x80 ≡ low → m.tells s b ≡ tells_pair Absent b
      → IsStep m weight s b t (step_of Absent b)
  absent_step true e tells =
      let ascii : b < 0x80 = grind (arith, nat_tests) in
      let k = keeps b ascii in
      subst (IsStep m weight s b t) (sym (cond-true _ _ _ e))
      (tells ∙ cond-true _ _ _ e ∙ ap (λ l. invalid ++ l) (sym k.0), goes ∙ sym k.1, omega (arith, light, heavy))
  absent_step false e tells =
      subst (IsStep m weight s b t) (sym (cond-false _ _ _ e)) (tells ∙ cond-false _ _ _ e, goes)

  pub trail_step : (p : Pair) → FitsPair p → m.tells s b ≡ tells_pair p b → IsStep m weight s b t (step_of p b)
  trail_step (One c) fits tells = (fits, tells, goes, omega (arith, light, heavy, four_at_most c))
  trail_step (Two c d) fits tells =
      (fits.0, fits.1, tells, goes, omega (arith, light, heavy, two_at_most c fits.2, two_at_most d fits.3))
  trail_step Absent fits tells = absent_step (nat_lt b 0x80) refl tells

module _ (E : Type 0) (first : ℕ → First) (pair : ℕ → ℕ → Pair) where
  abbrev machine : Machine (TwoBytes E)
  machine = two_bytes first pair

  high_test : (b : ℕ) → 0x80 ≤ b → nat_lt b 0x80 ≡ false
  high_test b h = grind (arith, nat_tests)

  -- what a byte that isn't ASCII tells, and the state after it
  tells_high : (b : ℕ) → 0x80 ≤ b → machine.tells nothing_kept b ≡ tells_first (first b)
  tells_high b h = cond-false _ _ _ (high_test b h)

  step_other : (b : ℕ) → 0x80 ≤ b → is_lead (first b) ≡ false → machine.step nothing_kept b ≡ nothing_kept
  step_other b h e = ap with_lead (cond-false _ _ _ (high_test b h) ∙ cond-false _ _ _ e)

  step_lead : (b : ℕ) → 0x80 ≤ b → is_lead (first b) ≡ true → machine.step nothing_kept b ≡ with_lead (Some b)
  step_lead b h e = ap with_lead (cond-false _ _ _ (high_test b h) ∙ cond-true _ _ _ e)

  pub one_character : (input : List ℕ) (at code : ℕ) → at < length input → 0x80 ≤ slice_index input at
      → first (slice_index input at) ≡ Character code → IsScalar code → code < 0x1_0000
      → IsCharacter machine nothing_kept input at code 1
  one_character input at code lt high is scalar small =
      let b = slice_index input at in
      character_from machine nothing_kept input (b ∷ []) at code 1 (omega arith) (omega arith)
      (next_one input at (omega arith)) scalar (omega (arith, three_at_most code small))
      (append-nil (machine.tells nothing_kept b) ∙ tells_high b high ∙ ap tells_first is)
      (step_other b high (ap is_lead is))

  pub two_character : (input : List ℕ) (at code : ℕ) → at + 2 ≤ length input → 0x80 ≤ slice_index input at
      → first (slice_index input at) ≡ Lead → pair (slice_index input at) (slice_index input (at + 1)) ≡ One code
      → IsScalar code → IsCharacter machine nothing_kept input at code 2
  two_character input at code le high lead is scalar =
      let b = slice_index input at in
      let e = slice_index input (at + 1) in
      let goes = step_lead b high (ap is_lead lead) in
      let silent : machine.tells nothing_kept b ≡ [] = tells_high b high ∙ ap tells_first lead in
      character_from machine nothing_kept input (b ∷ e ∷ []) at code 2 (omega arith) le (next_two input at le) scalar
      (omega (arith, four_at_most code))
      (ap₂ (λ l s. l ++ (machine.tells s e ++ [])) silent goes
      ∙ append-nil (tells_pair (pair b e) e) ∙ ap (λ p. tells_pair p e) is)
      (ap (λ s. machine.step s e) goes)

  -- a trail after a lead
  pub kept_step : (s : TwoBytes E) (l b : ℕ) (p : Pair) (made : Step) → made ≡ step_of p b → s.lead ≡ Some l
      → p ≡ pair l b → FitsPair p → IsStep machine (λ s. weight s) s b nothing_kept made
  kept_step s l b p made by lead is fits =
      subst (IsStep machine (λ s. weight s) s b nothing_kept) (sym by)
      (trail_step machine (λ s. weight s) s nothing_kept b (ap (λ o. with_lead (lead_after first o b)) lead)
      (keeps_ascii first pair) refl (ap lead_weight lead) p fits
      (ap (λ o. tells_byte first pair o b) lead ∙ ap (λ q. tells_pair q b) (sym is)))

  -- a character of one byte
  pub character_step : (s : TwoBytes E) (b c : ℕ) → s.lead ≡ None → 0x80 ≤ b → first b ≡ Character c → IsScalar c
      → c < 0x1_0000 → IsStep machine (λ s. weight s) s b s (Scalar c)
  character_step s b c none high is scalar small = (
    scalar,
    ap (λ o. tells_byte first pair o b) none ∙ tells_high b high ∙ ap tells_first is,
    ap (λ o. with_lead (lead_after first o b)) none ∙ step_other b high (ap is_lead is) ∙ ap with_lead (sym none),
    omega (arith, three_at_most c small),
  )
