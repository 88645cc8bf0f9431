-- Steps of the decoder of EUC-JP.
use Rattle.std.proofs.Common.{◌≡◌, ℕ, ◌+◌, ◌≤◌, true, false, List, [], ◌∷◌, ◌++◌, length, slice_index, refl}
use Rattle.std.proofs.Common.{sym, ap, ap₂, subst, ◌∙◌, arith, append-nil}
use Rattle.std.specs.Char.{IsScalar}
use Rattle.std.specs.Prelude.{nat_lt, Option, Some, None, IfSome}
use Rattle.std.proofs.lemmas.Bool.{cond-true, cond-false}
use Rattle.std.proofs.lemmas.Bool.Decides.{nat_tests}
use Rattle.tendril_decode.specs.Characters.{IsCharacter}
use Rattle.tendril_decode.specs.EucJp.{begins_jis0212, euc_jp, is_jp_lead, jis0212_pair, jp_keeps_ascii, jp_pair}
use Rattle.tendril_decode.specs.EucJp.{jp_step, jp_tells, jp_weight}
use Rattle.tendril_decode.specs.Steps.{IsStep}
use Rattle.tendril_decode.specs.TwoBytes.{FitsPair, step_of, tells_pair}
use Rattle.tendril_decode.specs.declared.euc_jp.EucJp.{EucJp}
use Rattle.tendril_decode.specs.declared.euc_jp.EucJp.TheVariants.{Start, Lead, SecondLead}
use Rattle.tendril_decode.specs.declared.steps.Step.{Step}
use Rattle.tendril_decode.specs.declared.two_bytes.Pair.{Pair}
use Rattle.tendril_decode.specs.declared.two_bytes.Pair.TheVariants.{One}
use Rattle.tendril_decode.proofs.CharacterSteps.{character_from, next_two, next_three}
use Rattle.tendril_decode.proofs.Lengths.{four_at_most}
use Rattle.tendril_decode.proofs.TwoByteSteps.{trail_step}

pub if_some : {A : Type 0} (P Q : A → Type 0) → ((x : A) → P x → Q x) → (o : Option A) → IfSome o P → IfSome o Q
if_some P Q f None h = tt
if_some P Q f (Some x) h = f x h

-- a byte that ends what is kept
module _ (s : EucJp) (l b : ℕ) (p : Pair) (made : Step) (by : made ≡ step_of p b) (fits : FitsPair p) where
  pub lead_step : s ≡ Lead l → begins_jis0212 l b ≡ false → p ≡ jp_pair l b
      → IsStep euc_jp (λ s. jp_weight s) s b Start made
  lead_step lead two is =
      subst (IsStep euc_jp (λ s. jp_weight s) s b Start) (sym by)
      (trail_step euc_jp (λ s. jp_weight s) s Start b (ap (λ u. jp_step u b) lead ∙ cond-false _ _ _ two)
      jp_keeps_ascii refl (ap jp_weight lead) p fits
      (ap (λ u. jp_tells u b) lead ∙ cond-false _ _ _ two ∙ ap (λ q. tells_pair q b) (sym is)))

  pub second_step : s ≡ SecondLead l → p ≡ jis0212_pair l b → IsStep euc_jp (λ s. jp_weight s) s b Start made
  second_step lead is =
      subst (IsStep euc_jp (λ s. jp_weight s) s b Start) (sym by)
      (trail_step euc_jp (λ s. jp_weight s) s Start b (ap (λ u. jp_step u b) lead) jp_keeps_ascii refl
      (ap jp_weight lead) p fits (ap (λ u. jp_tells u b) lead ∙ ap (λ q. tells_pair q b) (sym is)))

module _ (input : List ℕ) (at code : ℕ) (high : 0x80 ≤ slice_index input at)
    (lead : is_jp_lead (slice_index input at) ≡ true) (p : Pair) (fits : FitsPair p) (is : p ≡ One code) where
  abbrev l : ℕ
  l = slice_index input at

  abbrev b : ℕ
  b = slice_index input (at + 1)

  abbrev e : ℕ
  e = slice_index input (at + 2)

  scalar : IsScalar code
  scalar = subst FitsPair is fits

  silent : jp_tells Start l ≡ []
  silent = let test : nat_lt l 0x80 ≡ false = grind (arith, nat_tests) in
      cond-false _ _ _ test ∙ cond-true _ _ _ lead

  goes : jp_step Start l ≡ Lead l
  goes = cond-true _ _ _ lead

  pub two_bytes_done : at + 2 ≤ length input → begins_jis0212 l b ≡ false → p ≡ jp_pair l b
      → IsCharacter euc_jp Start input at code 2
  two_bytes_done le two by =
      character_from euc_jp Start input (l ∷ b ∷ []) at code 2 (omega arith) le (next_two input at le) scalar
      (omega (arith, four_at_most code))
      (ap₂ (λ x u. x ++ (jp_tells u b ++ [])) silent goes
      ∙ append-nil (jp_tells (Lead l) b) ∙ cond-false _ _ _ two ∙ ap (λ q. tells_pair q b) (sym by ∙ is))
      (ap (λ u. jp_step u b) goes ∙ cond-false _ _ _ two)

  pub three_bytes_done : at + 3 ≤ length input → begins_jis0212 l b ≡ true → p ≡ jis0212_pair b e
      → IsCharacter euc_jp Start input at code 3
  three_bytes_done le three by =
      let second : jp_step (Lead l) b ≡ SecondLead b = cond-true _ _ _ three in
      let still : jp_tells (Lead l) b ≡ [] = cond-true _ _ _ three in
      character_from euc_jp Start input (l ∷ b ∷ e ∷ []) at code 3 (omega arith) le (next_three input at le) scalar
      (omega (arith, four_at_most code))
      (ap₂ (λ x u. x ++ (jp_tells u b ++ (jp_tells (jp_step u b) e ++ []))) silent goes
      ∙ ap₂ (λ x u. x ++ (jp_tells u e ++ [])) still second
      ∙ append-nil (jp_tells (SecondLead b) e) ∙ ap (λ q. tells_pair q e) (sym by ∙ is))
      (ap (λ u. jp_step (jp_step u b) e) goes ∙ ap (λ u. jp_step u e) second)
