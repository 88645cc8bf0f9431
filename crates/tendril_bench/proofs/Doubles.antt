-- `Doubled` texts, two bytes at a time from the front.
use Rattle.std.proofs.Common.{◌≡◌, ℕ, ◌<◌, ◌≤◌, ◌-◌, List, [], ◌∷◌, ◌++◌, length, length-drop, take, drop, slice_get}
use Rattle.std.proofs.Common.{slice_index, arith, Some, refl, sym, ap, subst, ◌∙◌}
use Rattle.std.proofs.Math.Seq.{take-length}
use Rattle.tendril.specs.Fmt.Chars.{encodings, IsFirstChar}
use Rattle.tendril.specs.Fmt.Proved.Characters.{IsFirstChar-from_split}
use Rattle.tendril_bench.specs.Doubled.{twice, AreAscii, IsDoubled, firsts, IsDoubled-twice}

-- two bytes before a valid text are valid if they are equal and ASCII
pub IsDoubled-cons : (a b : ℕ) (rest : List ℕ) → a ≡ b → a < 128 → IsDoubled rest → IsDoubled (a ∷ b ∷ rest)
IsDoubled-cons a b rest e h w = (a ∷ w.0, (h, w.1), ap (λ l. a ∷ a ∷ l) w.2 ∙ ap (λ k. a ∷ k ∷ rest) e)

-- the converse
pub IsDoubled-uncons : (a b : ℕ) (rest : List ℕ) → IsDoubled (a ∷ b ∷ rest) → (a ≡ b) × (a < 128) × IsDoubled rest
IsDoubled-uncons a b rest w = cases w.0 w.1 w.2
  where
    cases : (cs : List ℕ) → AreAscii cs → encodings twice cs ≡ a ∷ b ∷ rest → (a ≡ b) × (a < 128) × IsDoubled rest
    cases [] h e = cc
    cases (c ∷ cs) h e =
        let first : c ≡ a = cc in
        let second : c ≡ b = cc in
        let others : encodings twice cs ≡ rest = cc in
        (sym first ∙ second, subst (λ k. k < 128) first h.0, (cs, h.1, others))

-- one byte isn't valid
pub IsDoubled-one : (a : ℕ) → IsDoubled (a ∷ []) → ⊥
IsDoubled-one a w = cases w.0 w.2
  where
    cases : (cs : List ℕ) → encodings twice cs ≡ a ∷ [] → ⊥
    cases [] e = cc
    cases (c ∷ cs) e = cc

-- the first character of a text whose first byte is c is c
pub IsFirstChar-doubled : (bytes : List ℕ) (c : ℕ) → IsDoubled bytes → Some c ≡ slice_get bytes 0
    → IsFirstChar IsDoubled firsts (λ d. d < 128) twice bytes c 2
IsFirstChar-doubled [] c w e = cc
IsFirstChar-doubled (a ∷ []) c w e = absurd (IsDoubled-one a w)
IsFirstChar-doubled (a ∷ b ∷ rest) c w e =
    let same : a ≡ c = cc in
    let k = IsDoubled-uncons a b rest w in
    let h : c < 128 = subst (λ d. d < 128) same k.1 in
    let split : a ∷ b ∷ rest ≡ twice c ++ rest = ap (λ d. a ∷ d ∷ rest) (sym k.0) ∙ ap (λ d. d ∷ d ∷ rest) same in
    IsFirstChar-from_split IsDoubled firsts (λ d. d < 128) twice (a ∷ b ∷ rest) rest c 2 split refl h
    (IsDoubled-twice c h) k.2 (ap (λ d. d ∷ firsts rest) same)

-- `IsDoubled-uncons` for a list of which only the length is known
pub IsDoubled-first_two : (rest : List ℕ) → 2 ≤ length rest → IsDoubled rest
    → (slice_index rest 0 ≡ slice_index rest 1) × (slice_index rest 0 < 128) × IsDoubled (drop 2 rest)
IsDoubled-first_two [] l w = let none : ⊥ = omega arith in absurd none
IsDoubled-first_two (a ∷ []) l w = let none : ⊥ = omega arith in absurd none
IsDoubled-first_two (a ∷ b ∷ rest) l w = IsDoubled-uncons a b rest w

pub IsDoubled-with_two : (rest : List ℕ) → 2 ≤ length rest → slice_index rest 0 ≡ slice_index rest 1
    → slice_index rest 0 < 128 → IsDoubled (drop 2 rest) → IsDoubled rest
IsDoubled-with_two [] l e h w = let none : ⊥ = omega arith in absurd none
IsDoubled-with_two (a ∷ []) l e h w = let none : ⊥ = omega arith in absurd none
IsDoubled-with_two (a ∷ b ∷ rest) l e h w = IsDoubled-cons a b rest e h w

-- the remainder after two equal ASCII bytes is valid exactly if the whole is
pub IsDoubled-after_two : (rest : List ℕ) → 2 ≤ length rest → slice_index rest 0 ≡ slice_index rest 1
    → slice_index rest 0 < 128
    → (IsDoubled rest → IsDoubled (take (length rest - 2) (drop 2 rest)))
    × (IsDoubled (take (length rest - 2) (drop 2 rest)) → IsDoubled rest)
IsDoubled-after_two rest l e h =
    let all : take (length rest - 2) (drop 2 rest) ≡ drop 2 rest =
    ap (λ k. take k (drop 2 rest)) (sym (length-drop 2 rest)) ∙ take-length (drop 2 rest) in (
      λ w. subst IsDoubled (sym all) (IsDoubled-first_two rest l w).2,
      λ w. IsDoubled-with_two rest l e h
          (subst IsDoubled all w),
    )

-- fewer than two bytes are valid only if there are none
pub IsDoubled-short : (rest : List ℕ) → length rest < 2 → (IsDoubled rest → length rest ≡ 0)
    × (length rest ≡ 0 → IsDoubled rest)
IsDoubled-short [] l = (λ _. refl, λ _. ([], tt, refl))
IsDoubled-short (a ∷ []) l = (λ w. absurd (IsDoubled-one a w), λ e. let none : ⊥ = omega arith in absurd none)
IsDoubled-short (a ∷ b ∷ rest) l = let none : ⊥ = omega arith in absurd none
