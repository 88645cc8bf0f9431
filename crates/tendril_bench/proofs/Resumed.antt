-- Decoding after kept bytes.
use Rattle.std.proofs.Common.{◌≡◌, ◌∙◌, ℕ, List, [], ◌∷◌, ◌++◌, map, refl, sym, ap, Result, Ok, Err, append_assoc}
use Rattle.std.specs.Prelude.{chars, MatchResult}
use Rattle.tendril.specs.Completions.{CompletesTo, BreaksAt}
use Rattle.tendril.specs.Proofs.Laws.{Resumes}
use Rattle.tendril.specs.Lossy.{Told, Char, characters, due_open, kept}
use Rattle.tendril_bench.specs.Decoded.{spelled}

told_front : (cs : List ℕ) (told : List Told) → characters (map Char cs ++ told) ≡ cs ++ characters told
told_front [] told = refl
told_front (c ∷ cs) told = ap (λ l. c ∷ l) (told_front cs told)

pub completed : (k input rest : List ℕ) (found : Result (List ℕ) (List ℕ)) → Resumes
    → MatchResult found (λ t. CompletesTo k input t rest) (λ b. BreaksAt k input b rest)
    → (characters (due_open (k ++ input)) ≡ spelled found ++ characters (due_open rest))
    × (kept (k ++ input) ≡ kept rest)
completed k input rest (Ok t) r h =
    let told = r.text k input t rest h in
    (ap characters told.0 ∙ told_front (chars t) (due_open rest), told.1)
completed k input rest (Err b) r h =
    let told = r.broken k input b rest h in
    (ap characters told.0, told.1)

pub joined : (a b c s d e : List ℕ) → b ≡ a ++ s → c ≡ b ++ d → e ≡ s ++ d → c ≡ a ++ e
joined a b c s d e p q r = q ∙ ap (λ l. l ++ d) p ∙ append_assoc a s d ∙ ap (λ l. a ++ l) (sym r)
