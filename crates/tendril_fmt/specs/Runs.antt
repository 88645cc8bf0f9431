-- Runs of characters of one class, and the calls of a classifier meanwhile.
use Rattle.std.specs.Prelude.{ℕ, ◌≡◌, ◌≤◌, List, [], ◌∷◌, ◌++◌, length, take, drop, Bool, true, false}
use Rattle.std.specs.List.{FoldsTo}

-- Calls of a classifier. `step f c r f'` says that the classifier f, called with the character c, may return r and
-- become f'; `eq` compares results.
module _ {F R : Type 0} (step : F → ℕ → R → F → Type 0) (eq : R → R → Bool) where
  -- called with a character, it returned the class
  abbrev pub SaysClass : R → F → ℕ → F → Type 0
  SaysClass class f c f' = (r : R) × step f c r f' × (eq class r ≡ true)

  -- called with the first of the characters, it returned another class; or there is none and it wasn't called
  abbrev pub SaysOther : R → F → List ℕ → F → Type 0
  SaysOther class f [] f' = f' ≡ f
  SaysOther class f (c ∷ cs) f' = (r : R) × step f c r f' × (eq class r ≡ false)

  -- the classifier was called once for each character of the run, in order, and once for the first one of the
  -- remainder, and became `after`: the class is its first result, the other results in the run equal it, and the one in
  -- the remainder doesn't
  pub record IsAsked (classify : F) (class : R) (run rest : List ℕ) (after : F) : Type 0 where
    pub first : ℕ
    pub others : List ℕ
    pub characters : run ≡ first ∷ others
    pub once : F
    pub asked_first : step classify first class once
    pub last : F
    pub asked_others : FoldsTo (SaysClass class) once others last
    pub asked_next : SaysOther class last rest after

  -- a text is a run of characters of one class, and the remainder
  pub record IsRun (valid : List ℕ → Type 0) (chars : List ℕ → List ℕ) (classify : F) (class : R)
      (text run rest : List ℕ) : Type 0 where
    pub bytes : text ≡ run ++ rest
    pub run_valid : valid run
    pub rest_valid : valid rest
    pub characters : chars text ≡ chars run ++ chars rest
    pub after : F
    pub asked : IsAsked classify class (chars run) (chars rest) after

  -- the first n bytes of a text are such a run, and both sides are valid
  pub record EndsRun (valid : List ℕ → Type 0) (chars : List ℕ → List ℕ) (classify : F) (class : R) (text : List ℕ)
      (n : ℕ) (after : F) : Type 0 where
    pub within : n ≤ length text
    pub run_valid : valid (take n text)
    pub rest_valid : valid (drop n text)
    pub characters : chars text ≡ chars (take n text) ++ chars (drop n text)
    pub asked : IsAsked classify class (chars (take n text)) (chars (drop n text)) after

  -- a text is such a run and the remainder, and the classifier becomes `last`
  abbrev pub AsksRun : (List ℕ → Type 0) → (List ℕ → List ℕ) → F → R → List ℕ → List ℕ → List ℕ → F → Type 0
  AsksRun valid chars classify class text run rest last =
      (is : IsRun valid chars classify class text run rest) × (is.after ≡ last)
