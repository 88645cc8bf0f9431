-- A share of a mark is split and joined, and agrees with the machine. Assumes `Logic`.
use Rattle.std.proofs.Common.{◌≡◌, ℕ, zero, suc, ◌+◌, List, [], ◌∷◌, refl, sym, subst, arith}
use mathlib.Mathlib.Data.Part.{◌∈◌, mem_unique}
use seplogic.Ra.Pcs.{OpDef-comm, OpDef}
use seplogic.Ra.Ura.{Ura}
use seplogic.Ra.Constructions.Prod
use seplogic.Ra.Instances.Ag
use base.Fraction.{full_share}
use base.FractionLaws.{not-OpDef-full_share}
use base.Share
use base.Share.{quarter}
use base.Stored.{Gv}
use base.SetCodes.{coded, SetCoded-set}
use base.Algebras.{pcs, shares}
use base.Logic.{ex, guard, via, ex_e, guard_e, guard_i}
use base.Fml.{Share, Fml}
use ghost.Rules.{Halves}
use types.Logic.{Logic}
use types.Keyed.{entry, entries_beside, entry_cut, entry_glue}
use types.Kit.{‵, ◌⊛◌, given, ◌$◌, ◌∵◌, !, qed, move, split, join, fpick, learn, check, use2, rewrite, done}
use Rattle.atomic_table.specs.Seated.{itself, halved, seen, unused, roster}
use Rattle.tendril_count.specs.Machine.{Holder, holder_at}
use Rattle.tendril_count.specs.Rule.{Role, role, roles, role_coded}
use Rattle.tendril_count.proofs.Notation.{c, propositions}

module _ {M : Type 1} {𝓤 : Ura M} (𝓛 : Logic 𝓤) (γ : ℕ) where
  infix 26 ◌⊢◌
  infixr 35 ◌∗◌
  open 𝓛 use {H, A}
  open propositions 𝓛 use {Pr, ◌⊢◌, ◌∗◌, ⟦◌⟧}

  abbrev S : ℕ → Share → Role → Fml
  S k q h = seen c γ k q h

  halves : (q : Share) (h : Role) → ◌∈◌ {α = Share × Gv} (q, c h) (halved.op (Share.left q, c h) (Share.right q, c h))
  halves q h = Prod.mk-mem-op Share.op (Ag.op (SetCoded-set (coded itself))) {a = Share.left q} {a' = Share.right q}
      {x = q} {b = c h} {b' = c h} {y = c h} (Share.halves q) (Ag.idem (SetCoded-set (coded itself)) (c h))

  pub mark_halves : (k : ℕ) (h : Role) → Halves 𝓤 H A (λ q. S k q h)
  mark_halves k h = record {
    cut = λ q. entry_cut halved 𝓛 γ k (Share.left q, c h) (Share.right q, c h) (q, c h) (halves q h);
    join = λ q. let l : Share × Gv = (Share.left q, c h) in let r : Share × Gv = (Share.right q, c h) in
        let F : Share × Gv → Pr = λ x. guard 𝓤 (x ∈ halved.op l r) ⟦ entry halved γ k x ⟧ in
        via 𝓤 (ex 𝓤 F) (entry_glue halved 𝓛 γ k l r)
        (ex_e 𝓤 F (λ x. guard_e 𝓤 (x ∈ halved.op l r) ⟦ entry halved γ k x ⟧ (λ m.
        subst (λ (y : Share × Gv). ⟦ entry halved γ k y ⟧ ⊢ ⟦ S k q h ⟧) (mem_unique (halved.op l r) (halves q h) m)
        (base.Logic.id⊢ 𝓤 ⟦ S k q h ⟧))));
  }

  agrees : (k : ℕ) (q r : Share) (w v : Role) → ⟦ S k q w ⟧ ∗ ⟦ S k r v ⟧ ⊢ guard 𝓤 (w ≡ v) (⟦ S k q w ⟧ ∗ ⟦ S k r v ⟧)
  agrees k q r w v = let F : Share × Gv
      → Pr = λ x. guard 𝓤 (x ∈ halved.op (q, c w) (r, c v)) ⟦ entry halved γ k x ⟧ in
      let Z : Pr = ⟦ S k q w ⟧ ∗ ⟦ S k r v ⟧ in
      via 𝓤 (ex 𝓤 F) (entry_glue halved 𝓛 γ k (q, c w) (r, c v))
      (ex_e 𝓤 F (λ x. guard_e 𝓤 (x ∈ halved.op (q, c w) (r, c v)) ⟦ entry halved γ k x ⟧ (λ m.
      via 𝓤 Z (entry_cut halved 𝓛 γ k (q, c w) (r, c v) x m) (guard_i 𝓤 (w ≡ v) Z (role_coded.inj w v m.0.1)))))

  told_from : (hs : List Holder) (n i j : ℕ) (r : Share) (h : Role) → j ≡ n + i → ⟦ roster c γ n (roles hs) ⟧
      ∗ ⟦ S j r h ⟧ ⊢ guard 𝓤 (role (holder_at hs i) ≡ h) (⟦ roster c γ n (roles hs) ⟧ ∗ ⟦ S j r h ⟧)
  told_from [] n i j r h e = qed 𝓛 (‵ (roster c γ n []) ∷ ‵ (S j r h) ∷ []) ∵ fpick ! (λ d. move ! (1 ∷ 0 ∷ []) $
      use2 𝓛 (given (OpDef halved.op (r, c h) (full_share, c d)) (‵ (S j r h) ⊛ ‵ (unused c γ n d)))
      (entries_beside halved 𝓛 γ n j (λ _. (full_share, c d)) (r, c h) (omega arith)) $
      learn ! (λ x. absurd (not-OpDef-full_share r ((OpDef-comm (pcs shares) {a = r} {b = full_share}).0 x.0))))
  told_from (w ∷ ws) n zero j r h e = let is : j ≡ n = omega arith in
      qed 𝓛 ((‵ (S n quarter (role w)) ⊛ ‵ (roster c γ (suc n) (roles ws))) ∷ ‵ (S j r h) ∷ []) ∵ split ! $
      rewrite ! 2 (λ (m : ℕ). ‵ (S m r h)) is refl $ move ! (0 ∷ 2 ∷ []) $
      use2 𝓛 (given (role w ≡ h) (‵ (S n quarter (role w)) ⊛ ‵ (S n r h))) (agrees n quarter r (role w) h) $
      learn ! (λ same. check ! same $ split ! $ rewrite ! 1 (λ (m : ℕ). ‵ (S m r h)) (sym is) refl $
      move ! (0 ∷ 2 ∷ []) $ join ! $ done !)
  told_from (w ∷ ws) n (suc i) j r h e =
      qed 𝓛 ((‵ (S n quarter (role w)) ⊛ ‵ (roster c γ (suc n) (roles ws))) ∷ ‵ (S j r h) ∷ []) ∵ split ! $
      move ! (1 ∷ 2 ∷ []) $
      use2 𝓛 (given (role (holder_at ws i) ≡ h) (‵ (roster c γ (suc n) (roles ws)) ⊛ ‵ (S j r h)))
      (told_from ws (suc n) i j r h (omega arith)) $
      learn ! (λ at. check ! at $ split ! $ move ! (2 ∷ 0 ∷ []) $ join ! $ done !)

  -- a share of a mark has the role of the reference in the machine
  pub told : (hs : List Holder) (k : ℕ) (r : Share) (h : Role) → ⟦ roster c γ 0 (roles hs) ⟧
      ∗ ⟦ S k r h ⟧ ⊢ guard 𝓤 (role (holder_at hs k) ≡ h) (⟦ roster c γ 0 (roles hs) ⟧ ∗ ⟦ S k r h ⟧)
  told hs k r h = told_from hs 0 k k r h (omega arith)
