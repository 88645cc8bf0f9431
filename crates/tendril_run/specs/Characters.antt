-- The first character of a text, and its longest prefix of one class.
use Rattle.std.specs.Prelude.{
  ℕ,
  ◌≡◌,
  ◌==◌,
  List,
  [],
  ◌∷◌,
  length,
  drop,
  Option,
  Some,
  None,
  MatchOption,
  Result,
}
use Rattle.tendril_errors.specs.Outcomes.{NoneMust, CountMay, Outcome}
use Rattle.tendril_errors.specs.declared.refusal.Refusal.{Refusal}
use Rattle.std.specs.List.{take_while}
use Rattle.tendril_fmt.specs.Chars.{encodings}

-- the first character
abbrev pub first_of : List ℕ → Option ℕ
first_of [] = None
first_of (c ∷ cs) = Some c

-- b without its first character; the last but one argument is the characters of b
abbrev pub without_first : (ℕ → List ℕ) → List ℕ → List ℕ → List ℕ
without_first encoding [] b = b
without_first encoding (c ∷ cs) b = drop (length (encoding c)) b

-- the longest prefix of characters that have the first one's class: the first run
abbrev pub first_run : (ℕ → ℕ) → List ℕ → List ℕ
first_run class [] = []
first_run class (c ∷ cs) = c ∷ take_while (λ d. class c == class d) cs

-- the bytes of the first run
abbrev pub run_bytes : (ℕ → List ℕ) → (ℕ → ℕ) → List ℕ → List ℕ
run_bytes encoding class cs = encodings encoding (first_run class cs)

-- b is split into its first run, whose class is k, and the remainder
abbrev pub IsFirstRun : (List ℕ → List ℕ) → (ℕ → List ℕ) → (ℕ → ℕ) → List ℕ → ℕ → List ℕ → List ℕ → Type 0
IsFirstRun chars encoding class b k run rest =
    (c : ℕ) × (first_of (chars b) ≡ Some c) × (k ≡ class c) × (run ≡ run_bytes encoding class (chars b))
    × (rest ≡ drop (length run) b)

-- the error that a pop of the first run may return: Count, if run and remainder are both too long to be inline
abbrev pub FirstRunMay : (ℕ → List ℕ) → (ℕ → ℕ) → List ℕ → List ℕ → Refusal → Type 0
FirstRunMay encoding class cs b r =
    CountMay (length (run_bytes encoding class cs)) r
    × CountMay (length (drop (length (run_bytes encoding class cs)) b)) r

-- the first run of b is returned as a text, with its class, and the remainder is left; None if b has no characters
abbrev pub TakesFirstRun : {T : Type 0} → (T → List ℕ) → (List ℕ → List ℕ) → (ℕ → List ℕ) → (ℕ → ℕ) → List ℕ
    → Result (Option (T × ℕ)) Refusal → List ℕ → Type 0
TakesFirstRun bytes_of chars encoding class b result new = Outcome NoneMust (FirstRunMay encoding class (chars b) b)
    (λ found rest. MatchOption found ((chars b ≡ []) × (rest ≡ b))
    (λ run. IsFirstRun chars encoding class b run.1 (bytes_of run.0) rest)) b result new
