use Rattle.std.proofs.Common.{◌≡◌, ℕ, List, [], ◌∷◌, ◌++◌, Option, sym, ◌∙◌, ap, subst, append_assoc, codes}
use Rattle.std.specs.Fmt.{decimal}
use Rattle.std.specs.Io.KnownBytes.{Appends}
use Rattle.tendril_errors.specs.Refusals.{name_of, number_of}
use Rattle.tendril_errors.specs.declared.refusal.Refusal.{Refusal}
use Rattle.tendril_script.specs.Writing.{AppendsFront, complaint}
use Rattle.tendril_script.proofs.EndingLemmas.{front_behind, front_of_first}

module _ (program number name : List ℕ) (refusal : Refusal) (numbered : number ≡ decimal (number_of refusal))
    (named : name ≡ name_of refusal) where
  -- what is written after the program's name and the first words
  abbrev after_program : List ℕ
  after_program = (number ++ codes " ") ++ (name ++ 10 ∷ [])

  pieces_of_line : (program ++ codes ": refused ") ++ after_program ≡ complaint program refusal
  pieces_of_line =
      ap (λ b. program ++ codes ": refused " ++ b) (sym (append_assoc (number ++ codes " ") name (10 ∷ [])))
      ∙ sym (append_assoc (program ++ codes ": refused ") (number ++ codes " " ++ name) (10 ∷ []))
      ∙ ap (λ ds. program ++ codes ": refused " ++ (ds ++ codes " " ++ name) ++ 10 ∷ []) numbered
      ∙ ap (λ b. program ++ codes ": refused " ++ (decimal (number_of refusal) ++ codes " " ++ b) ++ 10 ∷ []) named

  -- the writes: of all pieces, or of those before a failed one
  module _ (a b c d : Option (List ℕ)) where
    pub first_front : AppendsFront a b (program ++ codes ": refused ") → AppendsFront a b (complaint program refusal)
    first_front h = subst (AppendsFront a b) pieces_of_line (front_of_first a b _ after_program h)

    pub second_front : Appends a b (program ++ codes ": refused ") → AppendsFront b c (number ++ codes " ")
        → AppendsFront a c (complaint program refusal)
    second_front h k = subst (AppendsFront a c) pieces_of_line
        (front_behind a b c _ after_program h (front_of_first b c _ (name ++ 10 ∷ []) k))

    pub last_front : Appends a b (program ++ codes ": refused ") → Appends b c (number ++ codes " ")
        → AppendsFront c d (name ++ 10 ∷ []) → AppendsFront a d (complaint program refusal)
    last_front h k l = subst (AppendsFront a d) pieces_of_line
        (front_behind a b d _ after_program h (front_behind b c d _ (name ++ 10 ∷ []) k l))
