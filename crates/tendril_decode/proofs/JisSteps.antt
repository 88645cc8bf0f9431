-- The characters of ISO-2022-JP, and what is owed.
use Rattle.std.proofs.Common.{◌≡◌, ◌≢◌, ℕ, ◌+◌, ◌<◌, ◌≤◌, Bool, true, false, List, [], ◌∷◌, ◌++◌, length, refl}
use Rattle.std.proofs.Common.{slice_index, sym, ap, ap₂, subst, ◌∙◌, arith, append-nil, ltb-true}
use Rattle.std.specs.Prelude.{nat_lt, ◌==◌, ◌||◌, Some}
use Rattle.std.specs.Char.{IsScalar, encode_utf8}
use lib.Utf8.{scalar}
use Rattle.std.proofs.lemmas.Bool.{and_parts, and_from, cond-true, cond-false}
use Rattle.std.proofs.lemmas.Bool.Decides.{nat_tests}
use Rattle.tendril_lossy.specs.Lossy.{Char}
use Rattle.tendril_decode.specs.Characters.{IsCharacter}
use Rattle.tendril_decode.specs.Machines.{EndsTo, told_from, state_after, tells_nothing}
use Rattle.tendril_decode.specs.Single.{tells_entry}
use Rattle.tendril_decode.specs.Iso2022Jp.{iso_2022_jp, is_escape, is_jis, is_set_lead, jis_code, single_code}
use Rattle.tendril_decode.specs.Iso2022Jp.{tells_single, tells_plain, next_plain, tells_trail, tells_kept, next_kept}
use Rattle.tendril_decode.specs.Iso2022Jp.{resting, ends_set, is_fit, is_set_fit}
use Rattle.tendril_decode.specs.declared.iso_2022_jp.Iso2022Jp.{Iso2022Jp}
use Rattle.tendril_decode.specs.declared.iso_2022_jp.Kept.{Kept}
use Rattle.tendril_decode.specs.declared.iso_2022_jp.Kept.TheVariants.{Nothing, Lead, Escape, EscapeAnd, Owed}
use Rattle.tendril_decode.specs.declared.iso_2022_jp.Set.{Set}
use Rattle.tendril_decode.specs.declared.iso_2022_jp.Set.TheVariants.{Ascii, Roman, Katakana, Jis0208}
use Rattle.tendril_decode.proofs.Endings.{EndsTo-last}
use Rattle.tendril_decode.proofs.CharacterSteps.{character_from, next_one, next_two}
use Rattle.tendril_decode.proofs.Lengths.{three_at_most}

escape_no_jis : (b : ℕ) → b ≡ 0x1B → is_jis b ≡ false
escape_no_jis b h = grind (arith, nat_tests)

-- no character ends with an escape byte
pub escape_none : (l b : ℕ) → b ≡ 0x1B → jis_code l b ≡ 0
unfolding jis_code
escape_none l b h = cond-false _ _ _ (escape_no_jis b h)

-- what is owed is a character of the basic plane
pub owed_fit : (s : Iso2022Jp) (c : ℕ) → is_fit s ≡ true → s.kept ≡ Owed c
    → IsScalar c × (length (encode_utf8 c) ≤ 3)
owed_fit s c fit is =
    let both = and_parts (scalar c) (nat_lt c 0x1_0000) (ap is_set_fit (sym is) ∙ fit) in
    (both.0, three_at_most c (ltb-true c 0x1_0000 both.1))

-- the end after what is owed
pub owed_ends : (s t : Iso2022Jp) (c : ℕ) (text : List ℕ) → IsScalar c → s.kept ≡ Owed c → t.kept ≡ Nothing
    → text ≡ encode_utf8 c → EndsTo iso_2022_jp s text false t
owed_ends s t c text scalar is last written =
    EndsTo-last iso_2022_jp s t (c ∷ []) text false (and_from _ _ scalar refl)
    (written ∙ sym (append-nil (encode_utf8 c))) (ap (ends_set s.set) is) (ap (ends_set t.set) last)

pub no_escape : (b : ℕ) → b ≢ 0x1B → is_escape b ≡ false
no_escape b h = grind (arith, nat_tests)

-- a byte that is a character is no lead
no_lead : (set : Set) (b c : ℕ) → single_code set b ≡ Some c → is_set_lead set b ≡ false
no_lead Ascii b c h = refl
no_lead Roman b c h = refl
no_lead Katakana b c h = refl
no_lead Jis0208 b c h = absurd (cc)

module _ (set : Set) (b c : ℕ) (other : is_escape b ≡ false) (is : single_code set b ≡ Some c) where
  single_told : tells_plain set b ≡ Char c ∷ []
  single_told = cond-false _ _ _ (ap₂ (λ x y. x || y) other (no_lead set b c is)) ∙ ap tells_single is

  single_state : (fresh : Bool) → next_plain set fresh b ≡ resting set
  single_state fresh =
      ap₂ (λ (k : Kept) (f : Bool). record { set = set; kept = k; fresh = f })
      (cond-false _ _ _ other ∙ cond-false _ _ _ (no_lead set b c is)) (cond-false _ _ _ other)

-- a byte that is a character, where nothing is kept
pub single_step : (s : Iso2022Jp) (b c : ℕ) → s.kept ≡ Nothing → b ≢ 0x1B → Some c ≡ single_code s.set b
    → (iso_2022_jp.tells s b ≡ Char c ∷ [])
    × (iso_2022_jp.step s b ≡ record { set = s.set; kept = s.kept; fresh = false })
single_step s b c none other is = (
  ap (λ k. tells_kept s.set k s.fresh b) none ∙ single_told s.set b c (no_escape b other) (sym is),
  ap (λ k. next_kept s.set k s.fresh b) none ∙ single_state s.set b c (no_escape b other) (sym is) s.fresh
      ∙ ap (λ (k : Kept). record { set = s.set; kept = k; fresh = false }) (sym none),
)

pub single_character : (set : Set) (input : List ℕ) (at c : ℕ) → at < length input → slice_index input at ≢ 0x1B
    → Some c ≡ single_code set (slice_index input at) → IsScalar c → c < 0x1_0000
    → IsCharacter iso_2022_jp (resting set) input at c 1
single_character set input at c lt other is scalar small =
    let b = slice_index input at in
    let s : Iso2022Jp = resting set in
    character_from iso_2022_jp s input (b ∷ []) at c 1 (omega arith) (omega arith) (next_one input at (omega arith))
    scalar (omega (arith, three_at_most c small))
    (append-nil (tells_plain set b) ∙ single_told set b c (no_escape b other) (sym is))
    (single_state set b c (no_escape b other) (sym is) false)

jis_no_escape : (b : ℕ) → is_jis b ≡ true → is_escape b ≡ false
jis_no_escape b h = grind (arith, nat_tests)

other_none : (l b : ℕ) → is_jis b ≡ false → jis_code l b ≡ 0
unfolding jis_code
other_none l b h = cond-false _ _ _ h

trail_jis : (l b : ℕ) → jis_code l b ≢ 0 → is_jis b ≡ true
trail_jis l b h = by (is_jis b) refl
  where
    by : (t : Bool) → is_jis b ≡ t → is_jis b ≡ true
    by true e = e
    by false e = absurd (h (other_none l b e))

entry_told : (c : ℕ) → c ≢ 0 → tells_entry c ≡ Char c ∷ []
entry_told c h = let some : (c == 0) ≡ false = grind (arith, nat_tests) in cond-false _ _ _ some

module _ (a b : ℕ) (lead : is_jis a ≡ true) (some : jis_code a b ≢ 0) where
  abbrev two : Iso2022Jp
  two = resting Jis0208

  abbrev after_lead : Iso2022Jp
  after_lead = record { set = Jis0208; kept = Lead a; fresh = false }

  lead_told : tells_plain Jis0208 a ≡ []
  lead_told = cond-true _ _ _ (ap₂ (λ x y. x || y) (jis_no_escape a lead) lead)

  lead_state : next_plain Jis0208 false a ≡ after_lead
  lead_state =
      ap₂ (λ (k : Kept) (f : Bool). record { set = Jis0208; kept = k; fresh = f })
      (cond-false _ _ _ (jis_no_escape a lead) ∙ cond-true _ _ _ lead) (cond-false _ _ _ (jis_no_escape a lead))

  pair_told : told_from iso_2022_jp two (a ∷ b ∷ []) ≡ Char (jis_code a b) ∷ []
  pair_told =
      ap₂ (λ l (s : Iso2022Jp). l ++ (iso_2022_jp.tells s b ++ [])) lead_told lead_state
      ∙ append-nil (tells_trail a b) ∙ entry_told (jis_code a b) some

  pair_state : state_after iso_2022_jp two (a ∷ b ∷ []) ≡ two
  pair_state =
      ap (λ (s : Iso2022Jp). iso_2022_jp.step s b) lead_state
      ∙ ap (λ (k : Kept). record { set = Jis0208; kept = k; fresh = false })
      (cond-false _ _ _ (jis_no_escape b (trail_jis a b some)))

-- two bytes that are a character
pub jis_character : (set : Set) (input : List ℕ) (at c : ℕ) → set ≡ Jis0208 → at + 2 ≤ length input
    → is_jis (slice_index input at) ≡ true
    → c ≡ jis_code (slice_index input at) (slice_index input (at + 1)) → c ≢ 0 → IsScalar c → c < 0x1_0000
    → IsCharacter iso_2022_jp (resting set) input at c 2
jis_character set input at c is_two room lead is some scalar small =
    let a = slice_index input at in
    let b = slice_index input (at + 1) in
    let s : Iso2022Jp = resting Jis0208 in
    let none : jis_code a b ≢ 0 = λ e. some (is ∙ e) in
    subst (λ (t : Set). IsCharacter iso_2022_jp (resting t) input at c 2) (sym is_two)
    (character_from iso_2022_jp s input (a ∷ b ∷ []) at c 2 (omega arith) room (next_two input at room) scalar
    (omega (arith, three_at_most c small)) (pair_told a b lead none ∙ ap (λ x. Char x ∷ []) (sym is))
    (pair_state a b lead none))

-- where the end tells nothing and no escape sequence was right before
pub complete_rests : (s : Iso2022Jp) → s.fresh ≡ false → true ≡ tells_nothing (iso_2022_jp.ends s) → s ≡ resting s.set
complete_rests s old h = ap₂ (λ (k : Kept) (f : Bool). record { set = s.set; kept = k; fresh = f }) (none s.kept h) old
  where
    none : (k : Kept) → true ≡ tells_nothing (ends_set s.set k) → k ≡ Nothing
    none Nothing e = refl
    none (Lead l) e = absurd (cc)
    none Escape e = absurd (cc)
    none (EscapeAnd a) e = absurd (cc)
    none (Owed c) e = absurd (cc)
