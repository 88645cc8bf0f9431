-- Each step keeps the invariant of the machine.
use Rattle.std.proofs.Common.{◌≡◌, ◌⊎◌, inl, inr, ℕ, zero, suc, ◌+◌, ◌-◌, ◌%◌, ◌^◌, ◌<◌, ◌≤◌, Bool, true, false, List}
use Rattle.std.proofs.Common.{[], ◌∷◌, length, refl, sym, ◌∙◌, arith, if◌then◌else◌, nat_eq, ltb, ltb-true, eqb-true}
use Rattle.std.proofs.lemmas.Bool.{eqb-false}
use borrow.Author.Tests.{clash}
use Rattle.tendril_count.specs.Machine.{Holder, Ended, Reads, Writes, Surplus, Block, CountStep, Make, Add, Alone, Done}
use Rattle.tendril_count.specs.Machine.{Subtract, Free, Pass, holder_at, becomes, without, has, added, with_holder}
use Rattle.tendril_count.specs.Machine.{add_by, alone_by, done_by, subtract_by, pass_by, happens, run, after, is_held}
use Rattle.tendril_count.specs.Machine.{is_surplus, total, held, surplus, IsLimit}
use Rattle.tendril_count.proofs.Totals.{is_writer, changed, joined, no_more, counts_at, dropped, fewer, beside}
use Rattle.tendril_count.proofs.Totals.{up, down}

pub record Kept (limit : ℕ) (b : Block) : Type 0 where
  pub made : b.made ≡ true
  pub word : b.word ≡ held b + surplus b
  pub within : held b ≤ limit
  pub writing : 0 < total is_writer b.holders → b.word ≡ 1
  pub over : held b ≡ 0 → b.frees + length b.duties ≡ 1
  pub before : 0 < held b → b.frees + length b.duties ≡ 0

module _ (limit : ℕ) (low : IsLimit limit) (b : Block) (kept : Kept limit b) where
  small : b.word + 1 < 2 ^ 64
  small = omega (arith, kept.word, kept.within, low.1, no_more b.holders)

  -- no reference writes while one reads
  quiet : (k t : ℕ) → holder_at b.holders k ≡ Reads t → total is_writer b.holders ≡ 0
  quiet k t is = elim (zero_or (total is_writer b.holders)) [
    | inl none ↦ none
    | inr some ↦ omega (arith, kept.writing some, kept.word, beside b.holders k (Reads t) is refl refl)
  ]
    where
      zero_or : (n : ℕ) → (n ≡ 0) ⊎ (0 < n)
      zero_or zero = inl refl
      zero_or (suc n) = inr (omega arith)

  add_kept : (k t : ℕ) → holder_at b.holders k ≡ Reads t → (y : Bool) → ltb b.word limit ≡ y
      → Kept limit (added limit b k t y)
  add_kept k t is true below =
      let h = joined is_held b.holders (Reads t) in let s = joined is_surplus b.holders (Reads t) in
      let w = joined is_writer b.holders (Reads t) in
      record {
        made = kept.made;
        word = omega (arith, up b.word small, kept.word, h, s);
        within = omega (arith, h, kept.word, ltb-true _ _ below);
        writing = λ some. omega (arith, w, some, quiet k t is);
        over = λ none. omega (arith, none, h);
        before = λ some. omega (arith, kept.before (omega (arith, counts_at is_held b.holders k (Reads t) is refl)));
      }
  add_kept k t is false above =
      let h = changed is_held b.holders k (Surplus t) (Reads t) is refl in
      let s = changed is_surplus b.holders k (Surplus t) (Reads t) is refl in
      let w = changed is_writer b.holders k (Surplus t) (Reads t) is refl in
      record {
        made = kept.made;
        word = omega (arith, up b.word small, kept.word, h, s);
        within = omega (arith, h, kept.within);
        writing = λ some. omega (arith, w, some, quiet k t is);
        over = λ none. omega (arith, none, h, counts_at is_held b.holders k (Reads t) is refl);
        before = λ some. omega (arith, kept.before (omega (arith, counts_at is_held b.holders k (Reads t) is refl)));
      }

  -- a reference changes its state and the counts stay
  same_kept : (k : ℕ) (x h : Holder) → holder_at b.holders k ≡ h → is_held h ≡ 1 → is_held x ≡ 1 → is_surplus x
      ≡ is_surplus h → (0 < total is_writer (becomes b.holders k x) → b.word ≡ 1) → Kept limit (with_holder b k x)
  same_kept k x h is live lives same writes =
      let c = changed is_held b.holders k x h is live in let s = changed is_surplus b.holders k x h is live in
      record {
        made = kept.made;
        word = omega (arith, kept.word, c, s, live, lives, same);
        within = omega (arith, kept.within, c, live, lives);
        writing = writes;
        over = λ none. kept.over (omega (arith, none, c, live, lives));
        before = λ some. kept.before (omega (arith, some, c, live, lives));
      }

  ended_kept : (k t : ℕ) (h : Holder) → holder_at b.holders k ≡ h → is_held h ≡ 1 → is_surplus h ≡ 0
      → (0 < total is_writer (becomes b.holders k Ended) → ⊥) → (y : Bool) → nat_eq b.word 1 ≡ y
      → Kept limit (record {
        made = b.made;
        word = (b.word + (2 ^ 64 - 1)) % 2 ^ 64;
        holders =
            becomes b.holders k Ended;
        duties = if y then t ∷ b.duties else b.duties;
        frees = b.frees;
      })
  ended_kept k t h is live plain quiets true one =
      let c = changed is_held b.holders k Ended h is live in let s = changed is_surplus b.holders k Ended h is live in
      let there = counts_at is_held b.holders k h is live in let found = eqb-true b.word 1 one in
      record {
        made = kept.made;
        word = omega (arith, down b.word (omega (arith, found)) (omega (arith, found)), kept.word, c, s, live, plain);
        within = omega (arith, kept.within, c, live);
        writing = λ some. absurd (quiets some);
        over = λ none. omega (arith, kept.before (omega (arith, there, live)));
        before = λ some. omega (arith, some, c, live, kept.word, found);
      }
  ended_kept k t h is live plain quiets false more =
      let c = changed is_held b.holders k Ended h is live in let s = changed is_surplus b.holders k Ended h is live in
      let there = counts_at is_held b.holders k h is live in
      let at_least : 1 < b.word = omega (arith, eqb-false b.word 1 more, kept.word, there, live) in
      record {
        made = kept.made;
        word = omega (
          arith,
          down b.word (omega (arith, at_least)) (omega (arith, small)),
          kept.word,
          c,
          s,
          live,
          plain,
        );
        within = omega (arith, kept.within, c, live);
        writing = λ some. absurd (quiets some);
        over = λ none. omega (arith, none, c, s, live, plain, kept.word, at_least, no_more (becomes b.holders k Ended));
        before = λ some. kept.before (omega (arith, there, live));
      }

  surplus_kept : (k t : ℕ) → holder_at b.holders k ≡ Surplus t → (y : Bool) → nat_eq b.word 1 ≡ y
      → Kept limit (record {
        made = b.made;
        word = (b.word + (2 ^ 64 - 1)) % 2 ^ 64;
        holders =
            becomes b.holders k (Reads t);
        duties = if y then t ∷ b.duties else b.duties;
        frees = b.frees;
      })
  surplus_kept k t is true one =
      absurd (lt_irr (omega (
        arith,
        eqb-true b.word 1 one,
        kept.word,
        counts_at is_held b.holders k
            (Surplus t) is refl,
        counts_at is_surplus b.holders k (Surplus t) is refl,
      )))
    where
      lt_irr : 0 < 0 → ⊥
      lt_irr p = omega (arith, p)
  surplus_kept k t is false more =
      let c = changed is_held b.holders k (Reads t) (Surplus t) is refl in
      let s = changed is_surplus b.holders k (Reads t) (Surplus t) is refl in
      let w = changed is_writer b.holders k (Reads t) (Surplus t) is refl in
      let there = counts_at is_held b.holders k (Surplus t) is refl in
      let too = counts_at is_surplus b.holders k (Surplus t) is refl in
      record {
        made = kept.made;
        word = omega (arith, down b.word (omega (arith, kept.word, there)) (omega (arith, small)), kept.word, c, s);
        within = omega (arith, kept.within, c);
        writing = λ some. omega (arith, kept.writing (omega (arith, some, w)), kept.word, there, too);
        over = λ none. omega (arith, none, c, there);
        before = λ some. kept.before (omega (arith, there));
      }

  add_by_kept : (k : ℕ) (h : Holder) → holder_at b.holders k ≡ h → Kept limit (add_by limit b k h)
  add_by_kept k Ended is = kept
  add_by_kept k (Reads t) is = add_kept k t is _ refl
  add_by_kept k (Writes t) is = kept
  add_by_kept k (Surplus t) is = kept

  alone_kept : (k t : ℕ) → holder_at b.holders k ≡ Reads t → (y : Bool) → nat_eq b.word 1 ≡ y
      → Kept limit (if y then with_holder b k (Writes t) else b)
  alone_kept k t is true one = same_kept k (Writes t) (Reads t) is refl refl refl (λ some. eqb-true b.word 1 one)
  alone_kept k t is false more = kept

  alone_by_kept : (k : ℕ) (h : Holder) → holder_at b.holders k ≡ h → Kept limit (alone_by b k h)
  alone_by_kept k Ended is = kept
  alone_by_kept k (Reads t) is = alone_kept k t is _ refl
  alone_by_kept k (Writes t) is = kept
  alone_by_kept k (Surplus t) is = kept

  done_by_kept : (k : ℕ) (h : Holder) → holder_at b.holders k ≡ h → Kept limit (done_by b k h)
  done_by_kept k Ended is = kept
  done_by_kept k (Reads t) is = kept
  done_by_kept k (Writes t) is = same_kept k (Reads t) (Writes t) is refl refl refl
      (λ some. kept.writing (omega (arith, some, changed is_writer b.holders k (Reads t) (Writes t) is refl)))
  done_by_kept k (Surplus t) is = kept

  subtract_by_kept : (k : ℕ) (h : Holder) → holder_at b.holders k ≡ h → Kept limit (subtract_by b k h)
  subtract_by_kept k Ended is = kept
  subtract_by_kept k (Reads t) is =
      ended_kept k t (Reads t) is refl refl
      (λ some. omega (arith, some, changed is_writer b.holders k Ended (Reads t) is refl, quiet k t is)) _ refl
  subtract_by_kept k (Writes t) is =
      let w = changed is_writer b.holders k Ended (Writes t) is refl in
      ended_kept k t (Writes t) is refl refl
      (λ some. omega (arith, some, w, kept.writing (omega (arith, w)), kept.word, fewer b.holders)) _ refl
  subtract_by_kept k (Surplus t) is = surplus_kept k t is _ refl

  pass_by_kept : (k t : ℕ) (h : Holder) → holder_at b.holders k ≡ h → Kept limit (pass_by b k t h)
  pass_by_kept k t Ended is = kept
  pass_by_kept k t (Reads s) is =
      same_kept k (Reads t) (Reads s) is refl refl refl
      (λ some. omega (arith, some, changed is_writer b.holders k (Reads t) (Reads s) is refl, quiet k s is))
  pass_by_kept k t (Writes s) is = kept
  pass_by_kept k t (Surplus s) is = kept

  free_kept : (t : ℕ) (y : Bool) → has t b.duties ≡ y
      → Kept limit (if y then record {
        made = b.made;
        word = b.word;
        holders = b.holders;
        duties =
            without t b.duties;
        frees = b.frees + 1;
      } else b)
  free_kept t true duty =
      let d = dropped t b.duties duty in
      record {
        made = kept.made;
        word = kept.word;
        within = kept.within;
        writing = kept.writing;
        over = λ none. omega (arith, kept.over none, d);
        before = λ some. omega (arith, kept.before some, d);
      }
  free_kept t false absent = kept

  make_kept : (t : ℕ) (y : Bool) → b.made ≡ y
      → Kept limit (if y then b else record { made = true; word = 1; holders = Reads t ∷ []; duties = []; frees = 0 })
  make_kept t true is = kept
  make_kept t false is = absurd (clash (sym is ∙ kept.made))

  pub step_kept : (s : CountStep) → Kept limit (happens limit b s)
  step_kept (Make t) = make_kept t _ refl
  step_kept (Add k) = add_by_kept k _ refl
  step_kept (Alone k) = alone_by_kept k _ refl
  step_kept (Done k) = done_by_kept k _ refl
  step_kept (Subtract k) = subtract_by_kept k _ refl
  step_kept (Free t) = free_kept t _ refl
  step_kept (Pass k t) = pass_by_kept k t _ refl

run_kept : (limit : ℕ) → IsLimit limit → (steps : List CountStep) (b : Block) → Kept limit b
    → Kept limit (run limit steps b)
run_kept limit low [] b kept = kept
run_kept limit low (s ∷ steps) b kept = run_kept limit low steps (happens limit b s) (step_kept limit low b kept s)

pub after_kept : (limit thread : ℕ) (steps : List CountStep) → IsLimit limit → Kept limit (after limit thread steps)
after_kept limit thread steps low =
    run_kept limit low steps _ (record {
      made = refl;
      word = refl;
      within = omega (arith, low.0);
      writing = λ some. refl;
      over = λ none. omega (arith, none);
      before = λ some. refl;
    })
