-- Each clause, from the invariant of the machine.
use Rattle.std.proofs.Common.{◌≡◌, ◌⊎◌, inl, inr, ⊎_elim, ℕ, zero, suc, ◌+◌, ◌<◌, List, [], ◌∷◌, length, refl, ap}
use Rattle.std.proofs.Common.{arith}
use Rattle.tendril_count.specs.Machine.{CountStep, Make, Add, Alone, Done, Subtract, Free, Pass, Ended, IsEndOfWrite}
use Rattle.tendril_count.specs.Machine.{Block, Writes, held, holder_at, is_held, IsCounted, IsFreedOnce, IsOnesDuty}
use Rattle.tendril_count.specs.Machine.{IsWriter, IsAlone, happens}
use Rattle.tendril_count.proofs.Totals.{is_writer, counts_at, no_more, sole}
use Rattle.tendril_count.proofs.Kept.{Kept, after_kept}
use Rattle.tendril_count.proofs.interleavings.Goals as goal

module _ (limit : ℕ) (b : Block) (kept : Kept limit b) where
  counted : IsCounted limit b
  counted = record {
    word = kept.word;
    most = omega (arith, kept.word, kept.within, no_more b.holders);
    within =
        kept.within;
  }

  zero_or : (n : ℕ) → (n ≡ 0) ⊎ (0 < n)
  zero_or zero = inl refl
  zero_or (suc n) = inr (omega arith)

  freed_once : IsFreedOnce b
  freed_once = elim (zero_or (held b)) [
    | inl none ↦ record {
      once = omega (arith, kept.over none);
      not_held =
          λ some. (none, omega (arith, none, no_more b.holders));
    }
    | inr some ↦ record {
      once = omega (arith, kept.before some);
      not_held =
          λ freed. absurd (lt_irr (omega (arith, kept.before some, freed)));
    }
  ]
    where
      lt_irr : 0 < 0 → ⊥
      lt_irr p = omega (arith, p)

  nil : (ts : List ℕ) → length ts ≡ 0 → ts ≡ []
  nil [] e = refl
  nil (t ∷ ts) e = absurd (no e)
    where
      no : suc (length ts) ≡ 0 → ⊥
      no e = omega (arith, e)

  who : (n : ℕ) → b.frees ≡ n → b.frees + length b.duties ≡ 1 → ((b.frees ≡ 1) × (b.duties ≡ []))
      ⊎ ((b.frees ≡ 0) × (length b.duties ≡ 1))
  who zero is one = inr (is, omega (arith, is, one))
  who (suc n) is one = inl (omega (arith, is, one), nil b.duties (omega (arith, is, one)))

  duty : IsOnesDuty b
  duty = record {
    without_holders = λ none. who b.frees refl (kept.over none);
    with_holders = λ some. (omega (arith, kept.before some), nil b.duties (omega (arith, kept.before some)));
  }

  writer : (k t : ℕ) → IsWriter b k t → IsAlone b
  writer k t is =
      let one = kept.writing (omega (arith, counts_at is_writer b.holders k (Writes t) is refl)) in
      let there = counts_at is_held b.holders k (Writes t) is refl in
      (omega (arith, one, kept.word, there), omega (arith, one, kept.word, there))

  -- while k writes, every other reference has ended
  other : (k t j : ℕ) → IsWriter b k t → (j ≡ k) ⊎ (holder_at b.holders j ≡ Ended)
  other k t j is = sole b.holders j k t is (omega (arith, (writer k t is).0))

  still : (k t : ℕ) (s : CountStep) → IsWriter b k t → (happens limit b s ≡ b) ⊎ IsEndOfWrite s k
  still k t (Make u) is = inl (rw kept.made refl)
  still k t (Add j) is = inl (⊎_elim (λ e. rw e (rw is refl)) (λ e. rw e refl) (other k t j is))
  still k t (Alone j) is = inl (⊎_elim (λ e. rw e (rw is refl)) (λ e. rw e refl) (other k t j is))
  still k t (Done j) is = ⊎_elim (λ e. inr (inl (ap Done e))) (λ e. inl (rw e refl)) (other k t j is)
  still k t (Subtract j) is = ⊎_elim (λ e. inr (inr (ap Subtract e))) (λ e. inl (rw e refl)) (other k t j is)
  still k t (Free u) is = inl (rw (duty.with_holders (omega (arith, (writer k t is).0))).1 refl)
  still k t (Pass j u) is = inl (⊎_elim (λ e. rw e (rw is refl)) (λ e. rw e refl) (other k t j is))

pub returns-clause-counted : goal.returns-clause-counted
returns-clause-counted c = λ limit thread steps low. counted limit _ (after_kept limit thread steps low)

pub returns-clause-freed_once : goal.returns-clause-freed_once
returns-clause-freed_once c = λ limit thread steps low. freed_once limit _ (after_kept limit thread steps low)

pub returns-clause-duty : goal.returns-clause-duty
returns-clause-duty c = λ limit thread steps low. duty limit _ (after_kept limit thread steps low)

pub returns-clause-writer : goal.returns-clause-writer
returns-clause-writer c = λ limit thread steps k t low is. writer limit _ (after_kept limit thread steps low) k t is

pub returns-clause-none_added : goal.returns-clause-none_added
returns-clause-none_added c = λ limit thread steps k t s low is. still limit _ (after_kept limit thread steps low) k t
    s is
