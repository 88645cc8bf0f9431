-- Characters that are decoded at once, for any machine: ASCII bytes where they tell themselves, and others.
use Rattle.std.proofs.Common.{◌≡◌, ℕ, ◌+◌, ◌*◌, ◌<◌, ◌≤◌, true, List, [], ◌∷◌, ◌++◌, length, drop, map, slice_index}
use Rattle.std.proofs.Common.{refl, sym, ap, ap₂, subst, ◌∙◌, arith}
use Rattle.std.specs.Char.{IsScalar, encode_utf8}
use Rattle.std.specs.List.{AllByRecursion}
use Rattle.std.specs.Prelude.{slice_range}
use Rattle.std.specs.Str.{all_scalars, encode_utf8_all}
use Rattle.std.proofs.lemmas.Bool.{and_from}
use Rattle.std.proofs.lemmas.Bool.Decides.{nat_tests}
use Rattle.std.proofs.lemmas.List.{drop_more}
use Rattle.std.proofs.lemmas.List.Folds.{drop_split}
use Rattle.tendril_fmt.specs.Proved.Encodings.{encode_utf8_1}
use Rattle.tendril_lossy.specs.Lossy.{Char}
use Rattle.tendril_decode.specs.Characters.{IsCharacter, KeepsAscii}
use Rattle.tendril_decode.specs.Machines.{Machine, DecodesTo, told_from, state_after}
use Rattle.tendril_decode.proofs.Machines.{DecodesTo-more, DecodesTo-char}

pub next_one : (input : List ℕ) (at : ℕ) → at + 1 ≤ length input
    → drop at input ≡ slice_index input at ∷ drop (at + 1) input
next_one input at le = drop_more input at 0 (omega arith)

pub next_two : (input : List ℕ) (at : ℕ) → at + 2 ≤ length input
    → drop at input ≡ slice_index input at ∷ slice_index input (at + 1) ∷ drop (at + 2) input
next_two input at le =
    let same : at + 1 + 1 ≡ at + 2 = omega arith in
    next_one input at (omega arith)
    ∙ ap (λ l. slice_index input at ∷ l) (next_one input (at + 1) (omega arith)
    ∙ ap (λ n. slice_index input (at + 1) ∷ drop n input) same)

pub next_three : (input : List ℕ) (at : ℕ) → at + 3 ≤ length input → drop at input
    ≡ slice_index input at ∷ slice_index input (at + 1) ∷ slice_index input (at + 2) ∷ drop (at + 3) input
next_three input at le =
    let same : at + 2 + 1 ≡ at + 3 = omega arith in
    next_two input at (omega arith)
    ∙ ap (λ l. slice_index input at ∷ slice_index input (at + 1) ∷ l) (next_one input (at + 2) (omega arith)
    ∙ ap (λ n. slice_index input (at + 2) ∷ drop n input) same)

ascii_scalar : (b : ℕ) → b < 0x80 → IsScalar b
ascii_scalar b h = grind (arith, nat_tests)

module _ {S : Type 0} (m : Machine S) (t : S) where
  -- a run of ASCII bytes
  module _ (keeps : KeepsAscii m t) (rest : List ℕ) where
    run_scalars : (run : List ℕ) → AllByRecursion (λ b. b < 0x80) run → all_scalars run ≡ true
    run_scalars [] h = refl
    run_scalars (b ∷ run) h = and_from _ _ (ascii_scalar b h.0) (run_scalars run h.1)

    run_written : (run : List ℕ) → AllByRecursion (λ b. b < 0x80) run → run ≡ encode_utf8_all run
    run_written [] h = refl
    run_written (b ∷ run) h = ap (λ l. b ∷ l) (run_written run h.1)
        ∙ ap (λ l. l ++ encode_utf8_all run) (sym (encode_utf8_1 b h.0))

    run_told : (run : List ℕ) → AllByRecursion (λ b. b < 0x80) run
        → told_from m t (run ++ rest) ≡ map Char run ++ told_from m t rest
    run_told [] h = refl
    run_told (b ∷ run) h =
        ap₂ (λ x u. x ++ told_from m u (run ++ rest)) (keeps b h.0).0 (keeps b h.0).1
        ∙ ap (λ l. Char b ∷ l) (run_told run h.1)

    run_state : (run : List ℕ) → AllByRecursion (λ b. b < 0x80) run
        → state_after m t (run ++ rest) ≡ state_after m t rest
    run_state [] h = refl
    run_state (b ∷ run) h = ap (λ u. state_after m u (run ++ rest)) (keeps b h.0).1 ∙ run_state run h.1

    pub DecodesTo-run : (run : List ℕ) → AllByRecursion (λ b. b < 0x80) run
        → DecodesTo m t (run ++ rest) run [] t rest
    DecodesTo-run run h = record {
      characters = run;
      scalars = run_scalars run h;
      written = run_written run h;
      told = run_told run h;
      state = run_state run h;
    }

  -- bytes that are a character
  pub character_from : (input bytes : List ℕ) (at code len : ℕ) → 0 < len → at + len ≤ length input
      → drop at input ≡ bytes ++ drop (at + len) input → IsScalar code → length (encode_utf8 code) ≤ 3 * len
      → told_from m t bytes ≡ Char code ∷ [] → state_after m t bytes ≡ t → IsCharacter m t input at code len
  character_from input bytes at code len some within is scalar short told state = record {
    some = some;
    within = within;
    scalar = scalar;
    short = short;
    decodes =
        subst (λ l. DecodesTo m t l (encode_utf8 code) [] t (drop (at + len) input)) (sym is)
        (DecodesTo-char m t t bytes (drop (at + len) input) code scalar told state);
  }

  module _ (s : S) (input text new : List ℕ) (read : ℕ) (d : DecodesTo m s input text [] t (drop read input)) where
    -- after a run of ASCII bytes
    pub ascii_done : KeepsAscii m t → (end : ℕ) → read ≤ end
        → AllByRecursion (λ b. b < 0x80) (slice_range input read end) → new ≡ text ++ slice_range input read end
        → DecodesTo m s input new [] t (drop end input)
    ascii_done keeps end le ascii written =
        let run = slice_range input read end in
        subst (λ l. DecodesTo m s input l [] t (drop end input)) (sym written)
        (DecodesTo-more m s t t input text (drop read input) run (drop end input) [] d
        (subst (λ l. DecodesTo m t l run [] t (drop end input)) (sym (drop_split input read end le))
        (DecodesTo-run keeps (drop end input) run ascii)))

    -- after a character
    pub character_done : (code len : ℕ) → IsCharacter m t input read code len → new ≡ text ++ encode_utf8 code
        → DecodesTo m s input new [] t (drop (read + len) input)
    character_done code len c written =
        subst (λ l. DecodesTo m s input l [] t (drop (read + len) input)) (sym written)
        (DecodesTo-more m s t t input text (drop read input) (encode_utf8 code) (drop (read + len) input) []
        d c.decodes)
