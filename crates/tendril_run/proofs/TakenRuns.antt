use Rattle.std.proofs.Common.{◌≡◌, ℕ, List, [], ◌∷◌, ◌++◌, length, set, Some, None, refl, sym, subst, ap, ap₂, ◌∙◌, ◌⊎◌}
use Rattle.std.proofs.Common.{Ok, Err}
use Rattle.std.proofs.lemmas.List.{length-set}
use Rattle.std.specs.Option.{MatchOption}
use Rattle.tendril_errors.specs.declared.refusal.Refusal.{Refusal}
use Rattle.tendril_run.proofs.OneChanged.{OneChanged}
use Rattle.tendril_run.specs.Cells.{Cell, cell_at}
use Rattle.tendril_run.specs.OneCell.{char_of, IsRunOf, run_of, pop_run_rule}
use Rattle.tendril_run.specs.Steps.{CommandOutcome}
use Rattle.tendril_lines.specs.declared.command.Command.TheVariants.{PopRun}
use Rattle.tendril_lines.specs.declared.command.Reply.TheVariants.{Run}

module _ (class : ℕ → ℕ) (cells : List Cell) (slot : ℕ) (old new : Cell) (mid : List Cell)
    (one : OneChanged cells slot old new mid) where
  -- an empty cell has no run, and nothing changes
  pub none_taken : (pop_run_rule class old).must None → (char_of old ≡ None) × (new ≡ old)
      → CommandOutcome class cells (PopRun slot) (Ok (Run None)) mid
  none_taken must h = (
    subst (λ cell. (pop_run_rule class cell).must None) (sym one.here) must,
    subst (λ c. MatchOption c ((Run None ≡ Run None) × (mid ≡ cells))
        (λ c. (Run None ≡ Run (Some (length cells, class c)))
        × (mid ≡ set cells slot (pop_run_rule class (cell_at cells slot)).effect
        ++ run_of class (cell_at cells slot) ∷ [])))
        (sym (ap char_of one.here ∙ h.0)) (refl, one.kept h.1),
  )

  -- the first run of a cell is added to its table
  pub run_taken : (k number : ℕ) (run : Cell) (after : List Cell) → (pop_run_rule class old).must None
      → IsRunOf class old k run new → number ≡ length mid → after ≡ mid ++ run ∷ []
      → CommandOutcome class cells (PopRun slot) (Ok (Run (Some (number, k)))) after
  run_taken k number run after must (c, first, of_class, is_run, is_rest) at added =
      let here : (cell : Cell → Cell) → cell old ≡ cell (cell_at cells slot) = λ cell. ap cell (sym one.here) in
      let rest : mid ≡ set cells slot (pop_run_rule class (cell_at cells slot)).effect = one.there
      ∙ ap (set cells slot) (is_rest ∙ here (λ cell. (pop_run_rule class cell).effect)) in
      let place : number ≡ length cells = at ∙ ap length rest
      ∙ length-set cells slot (pop_run_rule class (cell_at cells slot)).effect in (
        subst (λ cell. (pop_run_rule class cell).must None) (sym one.here) must,
        subst (λ c. MatchOption c ((Run (Some (number, k)) ≡ Run None) × (after ≡ cells))
            (λ c. (Run (Some (number, k)) ≡ Run (Some (length cells, class c)))
            × (after ≡ set cells slot (pop_run_rule class (cell_at cells slot)).effect
            ++ run_of class (cell_at cells slot) ∷ [])))
            (sym (ap char_of one.here ∙ first)) (
              ap₂ (λ n k. Run (Some (n, k))) place of_class,
              added
                  ∙ ap₂ (λ cells run. cells ++ run ∷ []) rest (is_run ∙ here (run_of class)),
            ),
      )

  -- an error of the pop changes nothing
  pub run_refused : (r : Refusal) → (pop_run_rule class old).must (Some r)
      ⊎ ((pop_run_rule class old).must None × (pop_run_rule class old).may r) → new ≡ old
      → CommandOutcome class cells (PopRun slot) (Err r) mid
  run_refused r h same = (
    subst (λ cell. (pop_run_rule class cell).must (Some r)
        ⊎ ((pop_run_rule class cell).must None × (pop_run_rule class cell).may r)) (sym one.here) h,
    one.kept same,
  )
