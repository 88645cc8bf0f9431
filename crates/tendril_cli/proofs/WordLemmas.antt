use Rattle.std.proofs.Common.{◌≡◌, ℕ, ◌≤◌, ◌<◌, List, [], ◌∷◌, length, get_or, map, Bool, IsTrue, arith, rules, tests}
use Rattle.std.proofs.Common.{codes}
use Rattle.std.specs.Str.{bytes_eq}
use Rattle.tendril_cli.specs.Words.{AskToDecode}
use Rattle.tendril_script.specs.Words.{AskToRun}

-- one word asks to decode if it is `decode`
pub one_decode : {X : Type 0} (f : X → List ℕ) (words : List X) (d : X) (answer : Bool) → 1 ≤ length words
    → length words < 2 → answer ≡ bytes_eq (f (get_or words 0 d)) (codes "decode")
    → (IsTrue answer → AskToDecode (map f words)) × (AskToDecode (map f words) → IsTrue answer)
one_decode f [] d answer some few e = absurd (omega arith)
one_decode f (w ∷ []) d answer some few e = ((λ h. search (rules, tests)), (λ h. search (rules, tests)))
one_decode f (w ∷ v ∷ more) d answer some few e = absurd (omega arith)

-- words that ask for a run don't ask for a decoding
pub runs_only : (words : List (List ℕ)) → AskToRun words → AskToDecode words → ⊥
runs_only [] run decode = decode
runs_only (word ∷ []) run decode = search (rules, tests)
runs_only (word ∷ other ∷ more) run decode = decode
