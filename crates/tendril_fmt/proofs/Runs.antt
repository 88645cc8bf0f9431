use Rattle.std.proofs.Common.{◌≡◌, ℕ, ◌+◌, List, [], ◌∷◌, ◌++◌, take, drop, Bool, true, refl, sym, ap, ◌∙◌}
use Rattle.std.proofs.lemmas.Fn.{FoldsTo-push}
use Rattle.std.proofs.lemmas.List.{take-append-drop}
use Rattle.std.specs.List.{FoldsTo}
use Rattle.tendril_fmt.specs.Runs.{AsksRun, SaysClass, SaysOther, IsRun, EndsRun}
use Rattle.tendril_fmt.proofs.Splits.{IsSplitAfter-step, IsSplitAfter-texts}
use Rattle.tendril_fmt.specs.Chars.{IsFirstChar, AreTextsOf, IsSplitAfter}

module _ {F R : Type 0} (step : F → ℕ → R → F → Type 0) (eq : R → R → Bool) (valid : List ℕ → Type 0)
    (chars : List ℕ → List ℕ) (encodes : ℕ → Type 0) (encoding : ℕ → List ℕ) where
  -- the first bytes of a text are characters of one class, with which the classifier was called and became f
  pub record SoFar (classify : F) (class : R) (bytes : List ℕ) (end : ℕ) (f : F) : Type 0 where
    pub first : ℕ
    pub others : List ℕ
    pub split : IsSplitAfter valid chars encoding bytes (first ∷ others) end
    pub once : F
    pub asked_first : step classify first class once
    pub asked_others : FoldsTo (SaysClass step eq class) once others f

  pub grown : (classify f f' : F) (class r : R) (bytes : List ℕ) (end c n : ℕ) → SoFar classify class bytes end f
      → IsFirstChar valid chars encodes encoding (drop end bytes) c n → step f c r f' → eq class r ≡ true
      → SoFar classify class bytes (end + n) f'
  grown classify f f' class r bytes end c n so h asked same = record {
    first = so.first;
    others = so.others ++ c ∷ [];
    split = IsSplitAfter-step valid chars encodes encoding bytes (so.first ∷ so.others) end c n so.split h;
    once = so.once;
    asked_first = so.asked_first;
    asked_others = FoldsTo-push (SaysClass step eq class) so.once so.others f c f' so.asked_others (r, asked, same);
  }

  pub ended : ((bytes cs ds : List ℕ) → valid bytes → chars bytes ≡ cs ++ ds → AreTextsOf valid chars encoding cs ds)
      → (classify f after : F) (class : R) (bytes : List ℕ) (end : ℕ) → valid bytes → SoFar classify class bytes end f
      → SaysOther step eq class f (chars (drop end bytes)) after
      → EndsRun step eq valid chars classify class bytes end after
  ended cut classify f after class bytes end ok so next =
      let run = IsSplitAfter-texts valid chars encodes encoding bytes (so.first ∷ so.others) end
      (cut bytes (so.first ∷ so.others) (chars (drop end bytes)) ok so.split.characters) so.split in record {
        within = so.split.within;
        run_valid = run.0;
        rest_valid = so.split.rest_valid;
        characters = so.split.characters ∙ ap (λ cs. cs ++ chars (drop end bytes)) (sym run.1);
        asked = record {
          first = so.first;
          others = so.others;
          characters = run.1;
          once = so.once;
          asked_first = so.asked_first;
          last = f;
          asked_others = so.asked_others;
          asked_next = next;
        };
      }

  -- a text that was split at the end of a run
  pub is_run : (classify : F) (class : R) (text : List ℕ) (n : ℕ) (run rest : List ℕ) (after : F)
      → EndsRun step eq valid chars classify class text n after → run ≡ take n text → rest ≡ drop n text
      → AsksRun step eq valid chars classify class text run rest after
  is_run classify class text n run rest after h front end =
      let parts : IsRun step eq valid chars classify class text (take n text) (drop n text) = record {
        bytes = sym (take-append-drop n text);
        run_valid = h.run_valid;
        rest_valid = h.rest_valid;
        characters = h.characters;
        after = after;
        asked = h.asked;
      } in
      let asks : AsksRun step eq valid chars classify class text (take n text) (drop n text) after = (parts, refl) in
      rw (front, end) asks
