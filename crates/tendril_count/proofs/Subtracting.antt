-- `Subtract` on a block's count, under its invariant. Assumes `Logic`.
use Rattle.std.proofs.Common.{◌≡◌, ◌≢◌, ℕ, ◌+◌, ◌-◌, ◌%◌, ◌^◌, ◌<◌, Bool, true, false, [], ◌∷◌, refl, ap, arith}
use seplogic.Ra.Ura.{Ura}
use base.Fraction.{full_share}
use base.Share.{three_quarters}
use base.Logic.{upd, via, upd_i}
use base.Fml.{Fml, ftrue, fex, flft, fdead, flent}
use types.Logic.{Logic}
use types.Kit.{‵, raw, ◌⊛◌, given, later, ◌$◌, ◌∵◌, !, qed, by, move, drop, split, group, join, fsplit, fjoin, fpick}
use types.Kit.{fpack, learn, frame, suffices, settle, updating, await, use1, use2, use3, rewrite, done}
use types.Kit as Kit
use types.Tokens.{lft_end}
use types.Owned.{basic}
use types.RcWeak.{part, rest, gives}
use denote.RawPtr.{block_ptr}
use denote.Steps.{nothing}
use Rattle.core.specs.Sync.RawAtomic.{asks, always}
use Rattle.atomic_table.specs.Seated.{word, roster}
use Rattle.tendril_count.specs.Machine.{Ended, Reads, Block, Subtract, holder_at, becomes, held, is_held, is_surplus}
use Rattle.tendril_count.specs.Machine.{IsLimit, subtracted, subtract_by}
use native.Mathlib.Decide.{ℕ_discrete}
use mathlib.Core.Logic.{dite}
use Rattle.tendril_count.proofs.Totals.{changed, no_more}
use Rattle.tendril_count.specs.Rule.{Gone, Reader, role, roles, Threads, subtract_gives, IsReached, IsTurn, mark, state}
use Rattle.tendril_count.proofs.Reached.{last_one, reached_kept}
use Rattle.tendril_count.proofs.Opening.{after_upd, ending, opened, part_alive, marked, turned, shut, reached}
use Rattle.tendril_count.proofs.Emptying.{gathers, goes_out}
use Rattle.tendril_count.proofs.Notation.{c, propositions, counted, step}

module _ {M : Type 1} {𝓤 : Ura M} (𝓛 : Logic 𝓤) (whose : Threads) (limit : ℕ) (P : Fml) (b o a γ : ℕ) where
  infix 26 ◌⊢◌
  infixr 35 ◌∗◌
  open 𝓛 use {H, A}
  open propositions 𝓛 use {Pr, ◌⊢◌, ◌∗◌, ⟦◌⟧}
  open counted 𝓛 whose limit P b o a γ use {I, Beside, Goes}

  module _ (low : IsLimit limit) (k t : ℕ) (turn : IsTurn whose t) where
    open step 𝓛 whose limit P b o a γ k t use {Mine, Turned, Told, Leaves, Taken}

    -- `Subtract`
    abbrev pub Given : ℕ → Fml
    Given n = fex Bool (subtract_gives c whose limit P b o a γ t n)

    abbrev less : ℕ → ℕ
    less n = (n + (2 ^ 64 - 1)) % 2 ^ 64

    several : (s : Block) → IsReached whose limit s → 0 < held s → holder_at s.holders k ≡ Reads t → s.word ≢ 1
        → (1 < held s) × (held s - 1 ≡ held (subtracted s k Ended t))
    several s is some_held at more = let kept = reached_kept whose limit low s is in
        let m = changed is_held s.holders k Ended (Reads t) at refl in
        let u = changed is_surplus s.holders k Ended (Reads t) at refl in
        let w = no_more (becomes s.holders k Ended) in
        (omega (arith, kept.word, m, u, w, more, some_held), omega (arith, m))

    frees : (s : Block) → Told s → s.word ≡ 1 → A.dead (a ∷ []) ∗ Taken s (less s.word) ⊢ upd 𝓤 ⟦ Given s.word ⟧
    frees s so one = let s' : Block = subtracted s k Ended t in
        let Is : Block → Type 0 = λ x. (held x ≡ 0) × (x.frees ≡ 0) × (x.duties ≡ t ∷ []) in
        qed 𝓛 (‵ (fdead (a ∷ [])) ∷ ‵ (flent (a ∷ []) P) ∷ ‵ (roster c γ 0 (roles s.holders)) ∷ ‵
        (word b o s'.word) ∷ ‵ Mine ∷ []) ∵ move ! (2 ∷ 4 ∷ []) $
        use2 𝓛 (given (role (holder_at s.holders k) ≡ Reader)
        (raw (upd 𝓤 (⟦ roster c γ 0 (roles s'.holders) ⟧ ∗ ⟦ mark c γ k Gone ⟧))))
        (marked 𝓛 whose limit P b o a γ low s k Reader Ended) $
        learn ! (λ _.
        settle 𝓛 ⟦ Given s.word ⟧ (‵ (roster c γ 0 (roles s'.holders)) ⊛ ‵ (mark c γ k Gone)) $ split ! $
        suffices ! _ (upd_i 𝓤 ⟦ Given s.word ⟧) $ move ! (2 ∷ 4 ∷ 0 ∷ 3 ∷ []) $ group ! 4 $
        use1 𝓛 (‵ (Leaves Is 0)) (goes_out 𝓛 whose limit P b o a γ low k t turn Is s'
        (reached 𝓛 whose limit P b o a γ low s (Subtract k) s' (ap (subtract_by s k) so.2) refl so.0)
        (last_one whose limit low s k t (Reads t) so.0 so.2 refl one) 0 (ap less one)) $ move ! (1 ∷ []) $
        drop ! $ nothing ! $
        fpack ! (s.word ≡ 1) (λ _. ftrue) one $ fjoin ! $
        fpack ! Bool (subtract_gives c whose limit P b o a γ t s.word) true $ done !)

    others_stay : (s : Block) → s.word ≢ 1 → ⟦ word b o (less s.word) ⟧
        ∗ (⟦ Beside s ⟧ ∗ (⟦ Mine ⟧ ∗ ⟦ part 63 a ⟧)) ⊢ upd 𝓤 (⟦ I ⟧ ∗ ⟦ Given s.word ⟧)
    others_stay s more = let s₁ : Block = Turned s in let s' : Block = subtracted s₁ k Ended t in
        let Z : Pr = ⟦ I ⟧ ∗ ⟦ Given s.word ⟧ in
        qed 𝓛 (‵ (word b o s'.word) ∷ ‵ (Beside s) ∷ ‵ Mine ∷ ‵ (part 63 a) ∷ []) ∵ move ! (1 ∷ 2 ∷ []) $
        use2 𝓛 (given (holder_at s₁.holders k ≡ Reads t) (‵ (Beside s₁) ⊛ ‵ Mine))
        (turned 𝓛 whose limit P b o a γ low s k t three_quarters turn) $
        learn ! (λ at. split ! $ fsplit ! $ move ! (1 ∷ []) $ fsplit ! $ fpick ! (λ so. drop ! $ fsplit ! $
        -- [rest; P; roster; mark; word; part]
        move ! (2 ∷ 3 ∷ []) $ use2 𝓛 (given (role (holder_at s₁.holders k) ≡ Reader)
        (raw (upd 𝓤 (⟦ roster c γ 0 (roles s'.holders) ⟧ ∗ ⟦ mark c γ k Gone ⟧))))
        (marked 𝓛 whose limit P b o a γ low s₁ k Reader Ended) $
        learn ! (λ _.
        settle 𝓛 Z (‵ (roster c γ 0 (roles s'.holders)) ⊛ ‵ (mark c γ k Gone)) $ split ! $
        suffices ! _ (upd_i 𝓤 Z) $ let many = several s₁ so.0 so.1 at more in
        -- [roster; mark; rest; P; word; part]
        move ! (2 ∷ 5 ∷ []) $ use2 𝓛 (‵ (rest 63 a (held s₁ - 1))) (gives 63 𝓛 a (held s₁) many.0) $
        rewrite ! 0 (λ (m : ℕ). ‵ (rest 63 a m)) many.1 refl $
        move ! (0 ∷ 3 ∷ []) $ join ! $ move ! (3 ∷ 1 ∷ 0 ∷ []) $
        use3 𝓛 (‵ I) (shut 𝓛 whose limit P b o a γ low s'
        (reached 𝓛 whose limit P b o a γ low s₁ (Subtract k) s' (ap (subtract_by s₁ k) at) refl so.0)
        (omega (arith, many.0, many.1))) $ frame ! $ drop ! $ nothing ! $
        fpack ! (s.word ≢ 1) (λ _. ftrue) more $
        fpack ! Bool (subtract_gives c whose limit P b o a γ t s.word) false $ done !)))

    pub subtracts : A.inv I ∗ (⟦ Mine ⟧ ∗ ⟦ part 63 a ⟧) ⊢ asks 𝓛 (block_ptr b o) less always Given
    subtracts = opened 𝓛 whose limit P b o a γ less Given (⟦ Mine ⟧ ∗ ⟦ part 63 a ⟧)
        (part_alive 𝓛 whose limit P b o a γ low ⟦ Mine ⟧) (λ j s fits.
        dite (ℕ_discrete s.word 1) (λ one. takes_one j s one)
        (λ more. after_upd 𝓛 whose limit P b o a γ j _ (Given s.word) (others_stay s more)))
      where
        takes_one : (j : ℕ) (s : Block) → s.word ≡ 1 → ⟦ word b o (less s.word) ⟧ ∗ ⟦ Beside s ⟧
            ∗ (⟦ Mine ⟧ ∗ ⟦ part 63 a ⟧) ⊢ Goes j (Given s.word)
        takes_one j s one = let X : Pr = Taken (Turned s) (less s.word) in
            qed 𝓛 (‵ (word b o (less s.word)) ∷ ‵ (Beside s) ∷ ‵ Mine ∷ ‵ (part 63 a) ∷ []) ∵ group ! 4 $
            use1 𝓛 (given (Told (Turned s)) (‵ (flft (a ∷ []) full_share) ⊛ raw X))
            (gathers 𝓛 whose limit P b o a γ low k t turn s (less s.word) one) $
            learn ! (λ so. by ! (ending 𝓛 whose limit P b o a γ j X (Given s.word) (frees (Turned s) so one)))

    -- `Subtract` of a block of one thread
    pub subtracts_plainly : (s : Block) → ⟦ word b o (less s.word) ⟧
        ∗ (⟦ Beside s ⟧ ∗ (⟦ Mine ⟧ ∗ ⟦ part 63 a ⟧)) ⊢ H.⇛ (⟦ I ⟧ ∗ ⟦ Given s.word ⟧)
    subtracts_plainly s = let Z : Pr = ⟦ I ⟧ ∗ ⟦ Given s.word ⟧ in dite (ℕ_discrete s.word 1)
        (λ one. let X : Pr = Taken (Turned s) (less s.word) in
        qed 𝓛 (‵ (word b o (less s.word)) ∷ ‵ (Beside s) ∷ ‵ Mine ∷ ‵ (part 63 a) ∷ []) ∵ updating ! $ group ! 4 $
        use1 𝓛 (given (Told (Turned s)) (‵ (flft (a ∷ []) full_share) ⊛ raw X))
        (gathers 𝓛 whose limit P b o a γ low k t turn s (less s.word) one) $
        learn ! (λ so. split ! $ lft_end ! tt $
        use1 𝓛 (‵ (fdead (a ∷ [])) ⊛ ‵ (fdead (a ∷ []))) (𝓛.lfts.dead_dup (a ∷ [])) $ split ! $
        move ! (1 ∷ 2 ∷ []) $ use2 𝓛 (raw (upd 𝓤 ⟦ Given s.word ⟧)) (frees (Turned s) so one) $
        use1 𝓛 (later (‵ (Given s.word))) (basic 𝓛 ⟦ Given s.word ⟧) $ await ! tt $ move ! (1 ∷ []) $
        fpack ! Bool (state c whose limit P b o a γ) false $ Kit.now ! $ done !))
        (λ more. via 𝓤 (upd 𝓤 Z) (others_stay s more) (basic 𝓛 Z))
