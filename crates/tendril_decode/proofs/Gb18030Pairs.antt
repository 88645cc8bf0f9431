-- Characters of two bytes in gb18030.
use Rattle.std.proofs.Common.{◌≡◌, ◌≢◌, ℕ, ◌+◌, ◌<◌, ◌≤◌, Bool, true, false, List, [], ◌∷◌, ◌++◌, length, refl}
use Rattle.std.proofs.Common.{slice_index, sym, ap, ap₂, ◌∙◌, arith, append-nil, ◌&&◌}
use Rattle.std.specs.Prelude.{nat_lt, ◌==◌, Option, Some, None}
use Rattle.std.specs.Char.{IsScalar}
use Rattle.std.proofs.lemmas.Bool.{cond-true, cond-false}
use Rattle.std.proofs.lemmas.Bool.Decides.{nat_tests}
use Rattle.tendril_lossy.specs.Lossy.{Char}
use Rattle.tendril_decode.specs.Characters.{IsCharacter}
use Rattle.tendril_decode.specs.Machines.{told_from, state_after, tells_nothing}
use Rattle.tendril_decode.specs.Gb18030.{gb18030, is_lead, is_digit, is_trail, two_bytes_code, tells_at_start, keeping}
use Rattle.tendril_decode.specs.Gb18030.{kept_at_start, tells_after_first, tells_two_bytes}
use Rattle.tendril_decode.specs.Gb18030.{tells_byte, kept_after, ends_kept, tells_owed}
use Rattle.tendril_decode.specs.declared.gb18030.Gb18030.{Gb18030}
use Rattle.tendril_decode.specs.declared.gb18030.Kept.{Kept}
use Rattle.tendril_decode.specs.declared.gb18030.Kept.TheVariants.{Nothing, First, Second, Third}
use Rattle.tendril_decode.proofs.CharacterSteps.{character_from, next_two}
use Rattle.tendril_decode.proofs.Lengths.{three_at_most}

lead_high : (b : ℕ) → is_lead b ≡ true → nat_lt b 0x80 ≡ false
lead_high b h = grind (arith, nat_tests)

lead_other : (b : ℕ) → is_lead b ≡ true → (b == 0x80) ≡ false
lead_other b h = grind (arith, nat_tests)

lead_told : (b : ℕ) → is_lead b ≡ true → tells_at_start b ≡ []
lead_told b h = cond-false _ _ _ (lead_high b h) ∙ cond-false _ _ _ (lead_other b h) ∙ cond-true _ _ _ h

kept_lead : (b : ℕ) → is_lead b ≡ true → kept_at_start b ≡ First b
kept_lead b h = cond-false _ _ _ (lead_high b h) ∙ cond-true _ _ _ h

digit_no_trail : (b : ℕ) → is_digit b ≡ true → is_trail b ≡ false
digit_no_trail b h = grind (arith, nat_tests)

-- a digit is no second byte of two
digit_none : (f b : ℕ) → is_digit b ≡ true → two_bytes_code f b ≡ 0
unfolding two_bytes_code
digit_none f b h = cond-false _ _ _ (digit_no_trail b h)

not_digit : (f b : ℕ) → two_bytes_code f b ≢ 0 → is_digit b ≡ false
not_digit f b h = by (is_digit b) refl
  where
    by : (t : Bool) → is_digit b ≡ t → is_digit b ≡ false
    by true e = absurd (h (digit_none f b e))
    by false e = e

code_told : (c b : ℕ) → c ≢ 0 → tells_two_bytes c b ≡ Char c ∷ []
code_told c b h =
    let some : (c == 0) ≡ false = grind (arith, nat_tests) in
    cond-false _ _ _ (ap (λ t. t && nat_lt b 0x80) some) ∙ cond-false _ _ _ some

module _ (a b : ℕ) (lead : is_lead a ≡ true) (some : two_bytes_code a b ≢ 0) where
  pair_told : told_from gb18030 gb18030.start (a ∷ b ∷ []) ≡ Char (two_bytes_code a b) ∷ []
  pair_told =
      ap₂ (λ l k. l ++ (tells_byte k b ++ [])) (lead_told a lead) (kept_lead a lead)
      ∙ append-nil (tells_after_first a b) ∙ cond-false _ _ _ (not_digit a b some)
      ∙ code_told (two_bytes_code a b) b some

  pair_state : state_after gb18030 gb18030.start (a ∷ b ∷ []) ≡ gb18030.start
  pair_state =
      ap (λ k. keeping (kept_after k b)) (kept_lead a lead)
      ∙ ap keeping (cond-false _ _ _ (not_digit a b some))

-- two bytes that have a character
pub pair_character : (input : List ℕ) (at c : ℕ) → at + 2 ≤ length input
    → is_lead (slice_index input at) ≡ true
    → c ≡ two_bytes_code (slice_index input at) (slice_index input (at + 1)) → c ≢ 0 → IsScalar c → c < 0x1_0000
    → IsCharacter gb18030 gb18030.start input at c 2
pair_character input at c room lead is some scalar small =
    let a = slice_index input at in
    let b = slice_index input (at + 1) in
    let start = gb18030.start in
    let none : two_bytes_code a b ≢ 0 = λ e. some (is ∙ e) in
    character_from gb18030 start input (a ∷ b ∷ []) at c 2 (omega arith) room (next_two input at room) scalar
    (omega (arith, three_at_most c small)) (pair_told a b lead none ∙ ap (λ x. Char x ∷ []) (sym is))
    (pair_state a b lead none)

-- where the end tells nothing, nothing is kept or owed
pub complete_start : (s : Gb18030) → true ≡ tells_nothing (gb18030.ends s) → s ≡ gb18030.start
complete_start s h = go s.owed s.kept h
  where
    go : (o : Option ℕ) (k : Kept) → true ≡ tells_nothing (tells_owed o ++ ends_kept k)
        → record { owed = o; kept = k } ≡ gb18030.start
    go None Nothing h = refl
    go None (First f) h = absurd (cc)
    go None (Second f s) h = absurd (cc)
    go None (Third f s t) h = absurd (cc)
    go (Some d) k h = absurd (cc)
