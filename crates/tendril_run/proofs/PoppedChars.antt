use Rattle.std.proofs.Common.{◌≡◌, ℕ, List, [], ◌∷◌, ◌++◌, length, Option, Some, None, arith, sym, subst, ap, ◌∙◌}
use Rattle.std.proofs.lemmas.List.{append_cancel_left, length-append}
use Rattle.std.specs.Option.{IfSome, IfNone}
use Rattle.tendril_fmt.specs.Chars.{encodings, AreTextsOf}
use Rattle.tendril_run.specs.Cells.{IsText}

-- a text without its first character is valid and not too long
module _ (valid : List ℕ → Type 0) (chars : List ℕ → List ℕ) (encoding : ℕ → List ℕ) (spell : (b : List ℕ) → valid b
    → b ≡ encodings encoding (chars b)) (cut : (b cs ds : List ℕ) → valid b → chars b ≡ cs ++ ds
    → AreTextsOf valid chars encoding cs ds) where
  pub rest_kept : {B : Type 0} (bytes : B → List ℕ) (old new : B) (found : Option ℕ)
      → IfSome found (λ c. chars (bytes old) ≡ c ∷ chars (bytes new))
      → IfSome found (λ c. bytes old ≡ encoding c ++ bytes new) → IfNone found ((bytes old ≡ []) × (new ≡ old))
      → IsText valid (bytes old) → IsText valid (bytes new)
  rest_kept bytes old new None first parted none h = subst (λ t. IsText valid (bytes t)) (sym none.1) h
  rest_kept bytes old new (Some c) first parted none h =
      let rest = cut (bytes old) (c ∷ []) (chars (bytes new)) h.0 first in
      let spelt : bytes new ≡ encodings encoding (chars (bytes new)) =
      append_cancel_left (encoding c) (bytes new) (encodings encoding (chars (bytes new)))
      (sym parted ∙ spell (bytes old) h.0 ∙ ap (encodings encoding) first) in (
        subst valid (sym spelt) rest.rest_valid,
        omega
            (arith, h.1, ap length parted, length-append (encoding c) (bytes new)),
      )
