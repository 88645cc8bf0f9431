use Rattle.std.proofs.Common.{◌≡◌, ℕ, ◌==◌, ◌<◌, List, [], ◌∷◌, ◌++◌, length, take, drop, cond, Option, Some, None}
use Rattle.std.proofs.Common.{Result, Ok, Err, arith, refl, sym, subst, ap, ◌∙◌, inr}
use Rattle.std.proofs.Math.Seq.{drop-append_seam}
use Rattle.std.proofs.lemmas.List.{length-drop, length-take-le}
use Rattle.std.proofs.lemmas.List.Sums.{take_while-cons}
use Rattle.std.specs.List.{FoldsTo, take_while}
use Rattle.std.specs.Option.{MatchOption, IfSome, IfNone}
use Rattle.std.specs.Result.{IfOk, IfErr, OnErr}
use Rattle.tendril_text.specs.Characters.{HasLongParts}
use Rattle.tendril_fmt.specs.Runs.{SaysClass, SaysOther, IsAsked, IsRun}
use Rattle.tendril_errors.specs.declared.refusal.Refusal.{Refusal}
use Rattle.tendril_errors.specs.declared.refusal.Refusal.TheVariants.{Count}
use Rattle.tendril_fmt.specs.Chars.{encodings}
use Rattle.tendril_run.specs.Characters.{first_of, first_run, run_bytes, IsFirstRun, FirstRunMay, TakesFirstRun}

-- a classifier that doesn't change, and returns the class of each character, splits a text after its first run
module _ {F : Type 0} (step : F → ℕ → ℕ → F → Type 0) (class : ℕ → ℕ) (classify : F) (tells : (c r : ℕ) (f : F)
    → step classify c r f → (f ≡ classify) × (r ≡ class c)) where
  stays : (f : F) (c r : ℕ) (f' : F) → f ≡ classify → step f c r f' → (f' ≡ classify) × (r ≡ class c)
  stays f c r f' is asked = tells c r f' (subst (λ f. step f c r f') is asked)

  follows : (k : ℕ) (f : F) (others : List ℕ) (last : F) (rest : List ℕ) (after : F) → f ≡ classify
      → FoldsTo (SaysClass step (λ x y. x == y) k) f others last → SaysOther step (λ x y. x == y) k last rest after
      → take_while (λ d. k == class d) (others ++ rest) ≡ others
  follows k f [] last [] after is h next = refl
  follows k f [] last (d ∷ ds) after is h (r, asked, other) =
      take_while-cons (λ d. k == class d) d ds
      ∙ ap (λ b. cond b (d ∷ take_while (λ d. k == class d) ds) [])
      (ap (λ r. k == r) (sym (stays last d r after (sym h ∙ is) asked).1) ∙ other)
  follows k f (o ∷ os) last rest after is (j, (r, asked, same), h) next =
      let (still, told) = stays f o r j is asked in
      take_while-cons (λ d. k == class d) o (os ++ rest)
      ∙ ap (λ b. cond b (o ∷ take_while (λ d. k == class d) (os ++ rest)) []) (ap (λ r. k == r) (sym told) ∙ same)
      ∙ ap (λ xs. o ∷ xs) (follows k j os last rest after still h next)

  pub asked_run : (chars : List ℕ → List ℕ) (encoding : ℕ → List ℕ) (after : F) (k : ℕ) (text run rest : List ℕ)
      → chars text ≡ chars run ++ chars rest → run ≡ encodings encoding (chars run)
      → IsAsked step (λ x y. x == y) classify k (chars run) (chars rest) after
      → (c : ℕ) × (first_of (chars text) ≡ Some c) × (k ≡ class c) × (run ≡ run_bytes encoding class (chars text))
  asked_run chars encoding after k text run rest characters spelt h =
      let all : chars text ≡ (h.first ∷ h.others) ++ chars rest = characters
      ∙ ap (λ cs. cs ++ chars rest) h.characters in
      let (once, same) = tells h.first k h.once h.asked_first in
      let front : first_run class (chars text) ≡ h.first ∷ h.others = ap (first_run class) all
      ∙ ap (λ k. h.first ∷ take_while (λ d. k == class d) (h.others ++ chars rest)) (sym same)
      ∙ ap (λ xs. h.first ∷ xs) (follows k h.once h.others h.last (chars rest) after once h.asked_others
      h.asked_next) in
      (h.first, ap first_of all, same, spelt ∙ ap (encodings encoding) (h.characters ∙ sym front))

  module _ (valid : List ℕ → Type 0) (chars : List ℕ → List ℕ) (encoding : ℕ → List ℕ) (empty : chars [] ≡ [])
      (spell : (b : List ℕ) → valid b → b ≡ encodings encoding (chars b)) where
    first_parted : (k : ℕ) (text run rest : List ℕ) → IsRun step (λ x y. x == y) valid chars classify k text run rest
        → IsFirstRun chars encoding class text k run rest
    first_parted k text run rest h =
        let (c, first, of_class, front) = asked_run chars encoding h.after k text run rest h.characters
        (spell run h.run_valid) h.asked in
        (c, first, of_class, front, sym (drop-append_seam run rest) ∙ ap (drop (length run)) (sym h.bytes))

    found_run : {T B : Type 0} (bytes : B → List ℕ) (view : T → B) (old new : B) (found : Option (T × ℕ))
        → IfSome found (λ run. IsRun step (λ x y. x == y) valid chars classify run.1 (bytes old) (bytes (view run.0))
        (bytes new))
        → IfNone found ((bytes old ≡ []) × (new ≡ old))
        → MatchOption found ((chars (bytes old) ≡ []) × (bytes new ≡ bytes old))
        (λ run. IsFirstRun chars encoding class (bytes old) run.1 (bytes (view run.0)) (bytes new))
    found_run bytes view old new None some none = (ap chars none.0 ∙ empty, ap bytes none.1)
    found_run bytes view old new (Some (run, k)) some none =
        first_parted k (bytes old) (bytes (view run)) (bytes new) some

    long_run : (text : List ℕ) (r : Refusal)
        → (r ≡ Count) × HasLongParts step (λ x y. x == y) valid chars classify text
        → FirstRunMay encoding class (chars text) text r
    long_run text r (full, h) =
        let (c, first, of_class, front) = asked_run chars encoding h.after h.class text (take h.end text)
        (drop h.end text) h.run.characters (spell (take h.end text) h.run.run_valid) h.run.asked in
        let count : length (run_bytes encoding class (chars text)) ≡ h.end = ap length (sym front)
        ∙ length-take-le h.end text h.run.within in (
          (full, subst (λ n. 8 < n) (sym count) h.long),
          (
            full,
            subst (λ n. 8 < length (drop n text)) (sym count)
                (omega (arith, h.long_rest, length-drop h.end text)),
          ),
        )

    -- what `pop_front_char_run` of such a classifier returns and leaves is the first run and the remainder
    pub taken_run : {T B : Type 0} (bytes : B → List ℕ) (view : T → B) (old new : B)
        (result : Result (Option (T × ℕ)) Refusal)
        → IfOk result (λ found. IfSome found
        (λ run. IsRun step (λ x y. x == y) valid chars classify run.1 (bytes old) (bytes (view run.0)) (bytes new)))
        → IfOk result (λ found. IfNone found ((bytes old ≡ []) × (new ≡ old)))
        → IfErr result (λ r. (r ≡ Count) × HasLongParts step (λ x y. x == y) valid chars classify (bytes old))
        → OnErr result (new ≡ old)
        → TakesFirstRun (λ t. bytes (view t)) chars encoding class (bytes old) result (bytes new)
    taken_run bytes view old new (Ok found) some none long same = (tt, found_run bytes view old new found some none)
    taken_run bytes view old new (Err r) some none long same = (inr (tt, long_run (bytes old) r long), ap bytes same)
