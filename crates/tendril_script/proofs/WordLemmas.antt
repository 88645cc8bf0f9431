use Rattle.std.proofs.Common.{◌≡◌, ℕ, ◌≤◌, ◌<◌, List, [], ◌∷◌, length, get_or, map, Bool, IsTrue, arith, rules, tests}
use Rattle.std.proofs.Common.{codes}
use Rattle.std.specs.Str.{bytes_eq}
use Rattle.tendril_script.specs.Words.{AskToRun}

-- one word asks to run if it is `run`
pub one_word : {X : Type 0} (f : X → List ℕ) (words : List X) (d : X) (answer : Bool) → 1 ≤ length words
    → length words < 2 → answer ≡ bytes_eq (f (get_or words 0 d)) (codes "run")
    → (IsTrue answer → AskToRun (map f words)) × (AskToRun (map f words) → IsTrue answer)
one_word f [] d answer some few e = absurd (omega arith)
one_word f (w ∷ []) d answer some few e = ((λ h. search (rules, tests)), (λ h. search (rules, tests)))
one_word f (w ∷ v ∷ more) d answer some few e = absurd (omega arith)
