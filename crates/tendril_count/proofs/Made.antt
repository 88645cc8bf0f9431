-- The invariant is created, and again when a writer is done. Assumes `Logic`.
use Rattle.std.proofs.Common.{◌≡◌, ℕ, ◌<◌, Bool, true, [], ◌∷◌, refl, lit<, arith, ap, sym, subst}
use seplogic.Ra.Ura.{Ura}
use base.Fraction.{full_share}
use base.FractionLaws.{Counts-all}
use base.Logic.{ent, upd}
use base.Fml.{Fml, ftrue, fsep, fex, fbor}
use types.Logic.{Logic, sem}
use types.Kit.{‵, raw, ◌⊛◌, some, given, later, ◌$◌, ◌∵◌, !, qed, by, move, keep, drop, split, fsplit, fsplit3, fjoin}
use types.Kit.{fjoin3, fpick, fpack, pick, learn, show, use0, use1, use2, rewrite, updating, await, now, done}
use types.Tokens.{lft_new, bor_new}
use types.Owned.{basic}
use types.RcWeak.{part, rest, cut}
use denote.Steps.{nothing}
use Rattle.atomic_table.specs.Seated.{word, fact, roster}
use Rattle.atomic_table.proofs.Marking.{begins}
use Rattle.tendril_count.specs.Machine.{Holder, Reads, Writes, Block, CountStep, Done, held, happens}
use Rattle.tendril_count.specs.Machine.{nothing as no_block, holder_at, becomes, with_holder, done_by, is_held, IsLimit}
use Rattle.tendril_count.specs.Machine as machine
use Rattle.tendril_count.proofs.Totals.{changed, counts_at}
use Rattle.tendril_count.specs.Rule.{Reader, Writer, role, roles, role_coded, Threads, IsReached, IsTurn, mark}
use Rattle.tendril_count.specs.Rule.{live, state, Inv}
use Rattle.tendril_count.proofs.Reached.{begun, reached_step, reached_kept}
use Rattle.tendril_count.proofs.Opening.{marked}
use Rattle.tendril_count.proofs.Notation.{c, propositions}

-- `R Q` says that Q is kept by an invariant
module _ {M : Type 1} {𝓤 : Ura M} (𝓛 : Logic 𝓤) (R : Fml → Fml) (keeps : (Q : Fml)
    → ent 𝓤 (sem 𝓛 Q) (𝓛.H.⇛ (sem 𝓛 (R Q)))) (whose : Threads) (limit : ℕ) (P : Fml) (b o : ℕ) where
  infix 26 ◌⊢◌
  infixr 35 ◌∗◌
  open 𝓛 use {H, A}
  open propositions 𝓛 use {Pr, ◌⊢◌, ◌∗◌, ⟦◌⟧}

  -- what the only reference owns, by the lifetime a and the ghost name γ, and the borrow of the content P
  abbrev pub first_holder : ℕ → ℕ × ℕ → Fml
  first_holder k i = fsep (fsep (R (Inv c whose limit P b o i.0 i.1)) (fsep (mark c i.1 k Reader) (part 63 i.0)))
      (fbor (i.0 ∷ []) P)

  opens_with : (s : Block) (γ : ℕ) (k : ℕ) → IsReached whose limit s → held s ≡ 1 → s.word ≡ 1
      → ⟦ word b o 1 ⟧ ∗ (⟦ roster c γ 0 (roles s.holders) ⟧ ∗ (⟦ mark c γ k Reader ⟧ ∗ ⟦ P ⟧)) ⊢ H.⇛ ⟦ fex (ℕ × ℕ)
      (first_holder k) ⟧
  opens_with s γ k is one same =
      qed 𝓛 (‵ (word b o 1) ∷ ‵ (roster c γ 0 (roles s.holders)) ∷ ‵ (mark c γ k Reader) ∷ ‵ P ∷ []) ∵ updating ! $
      lft_new ! tt (λ a.
      use1 𝓛 (‵ (rest 63 a 1) ⊛ ‵ (part 63 a)) (cut 63 𝓛 a 0 full_share (lit< tt) (Counts-all 63)) $ split ! $
      move ! (5 ∷ []) $ bor_new ! tt (a ∷ []) $
      -- [borrow; P back; rest; part; word; roster; mark]
      rewrite ! 2 (λ (m : ℕ). ‵ (rest 63 a m)) (sym one) refl $ move ! (2 ∷ 1 ∷ []) $ fjoin ! $ nothing ! $
      fpack ! (IsReached whose limit s × (0 < held s)) (λ _. ftrue) (is, omega (arith, one)) $ fjoin ! $
      -- [fact and tokens; borrow; part; word; roster; mark]
      move ! (4 ∷ 0 ∷ []) $ fjoin ! $ rewrite ! 3 (λ (m : ℕ). ‵ (word b o m)) (sym same) refl $ move ! (3 ∷ 0 ∷ []) $
      fjoin ! $ fpack ! Block (live c whose limit P b o a γ) s $ fpack ! Bool (state c whose limit P b o a γ) true $
      use1 𝓛 (later (‵ (R (Inv c whose limit P b o a γ)))) (keeps (Inv c whose limit P b o a γ)) $ await ! tt $
      -- [invariant; borrow; part; mark]
      move ! (3 ∷ 2 ∷ []) $ fjoin ! $ move ! (1 ∷ 0 ∷ []) $ fjoin ! $ fjoin ! $
      fpack ! (ℕ × ℕ) (first_holder k) (a, γ) $ now ! $ done !)

  pub made : (t : ℕ) → IsTurn whose t → ⟦ word b o 1 ⟧ ∗ ⟦ P ⟧ ⊢ H.⇛ ⟦ fex (ℕ × ℕ) (first_holder 0) ⟧
  made t turn = let s : Block = happens limit no_block (machine.Make t) in
      qed 𝓛 (‵ (word b o 1) ∷ ‵ P ∷ []) ∵ updating ! $
      use0 𝓛 (later (some (λ (γ : ℕ). ‵ (roster c γ 0 (Reader ∷ [])) ⊛ ‵ (mark c γ 0 Reader))))
      (begins 𝓛 role_coded Reader) $ await ! tt $ pick ! (λ γ. split ! $
      move ! (2 ∷ 0 ∷ 1 ∷ 3 ∷ []) $ types.Kit.group ! 4 $
      use1 𝓛 (later (‵ (fex (ℕ × ℕ) (first_holder 0)))) (opens_with s γ 0 (begun whose limit t turn) refl refl) $
      await ! tt $ now ! $ done !)

  -- a writer is done: the machine continues from its state
  pub resumed : (low : IsLimit limit) (γ k t : ℕ) → ⟦ mark c γ k Writer ⟧
      ∗ (⟦ word b o 1 ⟧ ∗ (⟦ fex Block
      (λ s. fsep (roster c γ 0 (roles s.holders))
      (fact (IsReached whose limit s × (s.word ≡ 1) × (holder_at s.holders k ≡ Writes t)))) ⟧ ∗ ⟦ P ⟧)) ⊢ H.⇛ ⟦ fex
      (ℕ × ℕ) (first_holder k) ⟧
  resumed low γ k t =
      qed 𝓛 (‵ (mark c γ k Writer) ∷ ‵ (word b o 1) ∷ ‵
      (fex Block (λ s. fsep (roster c γ 0 (roles s.holders))
      (fact (IsReached whose limit s × (s.word ≡ 1) × (holder_at s.holders k ≡ Writes t))))) ∷ ‵ P ∷ []) ∵
      updating ! $
      move ! (2 ∷ []) $ fpick ! (λ s. fsplit ! $ move ! (1 ∷ []) $
      fpick ! (λ so. drop ! $ let s' : Block = with_holder s k (Reads t) in let at = so.2 in
      let kept = reached_kept whose limit low s so.0 in
      move ! (0 ∷ 1 ∷ []) $ use2 𝓛 (given (role (holder_at s.holders k) ≡ Writer)
      (raw (upd 𝓤 (⟦ roster c γ 0 (roles s'.holders) ⟧ ∗ ⟦ mark c γ k Reader ⟧))))
      (marked 𝓛 whose limit P b o 0 γ low s k Writer (Reads t)) $ learn ! (λ same.
      use1 𝓛 (later (‵ (roster c γ 0 (roles s'.holders)) ⊛ ‵ (mark c γ k Reader)))
      (basic 𝓛 (⟦ roster c γ 0 (roles s'.holders) ⟧ ∗ ⟦ mark c γ k Reader ⟧)) $ await ! tt $ split ! $
      move ! (2 ∷ 0 ∷ 1 ∷ 3 ∷ []) $ types.Kit.group ! 4 $
      use1 𝓛 (later (‵ (fex (ℕ × ℕ) (first_holder k))))
      (opens_with s' γ k (subst (IsReached whose limit) (ap (done_by s k) at)
      (reached_step whose limit s so.0 (Done k) refl))
      (omega (
        arith,
        kept.word,
        so.1,
        changed is_held s.holders k (Reads t) (Writes t) at refl,
        counts_at is_held
            s.holders k (Writes t) at refl,
      )) so.1) $ await ! tt $ now ! $ done !)))
