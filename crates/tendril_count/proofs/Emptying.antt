-- A step that found the count 1 takes everything out of the invariant of a block's count. Assumes `Logic`.
use Rattle.std.proofs.Common.{◌≡◌, ℕ, ◌<◌, [], ◌∷◌, refl, arith}
use seplogic.Ra.Ura.{Ura}
use base.Fraction.{full_share}
use base.Share.{three_quarters}
use base.Logic.{guard}
use base.Fml.{Fml, ftrue, fsep, flft, fdead, flent}
use types.Logic.{Logic}
use types.Kit.{‵, ◌⊛◌, given, ◌$◌, ◌∵◌, !, qed, move, drop, split, fsplit, fjoin, fpick, fpack, learn, check, use2}
use types.Kit.{rewrite, done}
use types.RcWeak.{part, rest, whole}
use denote.Steps.{nothing}
use Rattle.atomic_table.specs.Seated.{word, fact, roster}
use Rattle.tendril_count.specs.Machine.{Reads, Block, holder_at, held, IsLimit}
use Rattle.tendril_count.specs.Rule.{roles, Threads, IsReached, IsTurn}
use Rattle.tendril_count.proofs.Notation.{c, propositions, counted, step}
use Rattle.tendril_count.proofs.Reached.{reached_kept}
use Rattle.tendril_count.proofs.Opening.{turned}

module _ {M : Type 1} {𝓤 : Ura M} (𝓛 : Logic 𝓤) (whose : Threads) (limit : ℕ) (P : Fml) (b o a γ : ℕ) where
  infix 26 ◌⊢◌
  infixr 35 ◌∗◌
  open 𝓛 use {A}
  open propositions 𝓛 use {Pr, ◌⊢◌, ◌∗◌, ⟦◌⟧}
  open counted 𝓛 whose limit P b o a γ use {Beside}

  module _ (low : IsLimit limit) (k t : ℕ) (turn : IsTurn whose t) where
    open step 𝓛 whose limit P b o a γ k t use {Mine, Turned, Told, Leaves, Taken}

    single : (s : Block) → IsReached whose limit s → 0 < held s → s.word ≡ 1 → held s ≡ 1
    single s is some_held one = let kept = reached_kept whose limit low s is in
        omega (arith, kept.word, one, some_held)

    -- a step that found 1 owns the whole token
    pub gathers : (s : Block) (n : ℕ) → s.word ≡ 1
        → ⟦ word b o n ⟧ ∗ (⟦ Beside s ⟧ ∗ (⟦ Mine ⟧ ∗ ⟦ part 63 a ⟧)) ⊢ guard 𝓤 (Told (Turned s))
        (A.lft (a ∷ []) full_share ∗ Taken (Turned s) n)
    gathers s n one = let s' : Block = Turned s in
        qed 𝓛 (‵ (word b o n) ∷ ‵ (Beside s) ∷ ‵ Mine ∷ ‵ (part 63 a) ∷ []) ∵ move ! (1 ∷ 2 ∷ []) $
        use2 𝓛 (given (holder_at s'.holders k ≡ Reads t) (‵ (Beside s') ⊛ ‵ Mine))
        (turned 𝓛 whose limit P b o a γ low s k t three_quarters turn) $
        learn ! (λ at. split ! $ fsplit ! $ move ! (1 ∷ []) $ fsplit ! $
        fpick ! (λ so. drop ! $ check ! (so.0, so.1, at) $ fsplit ! $
        -- [rest; P; roster; mark; word; part]
        rewrite ! 0 (λ (m : ℕ). ‵ (rest 63 a m)) (single s' so.0 so.1 one) refl $ move ! (0 ∷ 5 ∷ []) $
        use2 𝓛 (‵ (flft (a ∷ []) full_share)) (whole 63 𝓛 a) $ move ! (0 ∷ 1 ∷ 2 ∷ 4 ∷ 3 ∷ []) $ done !))

    -- with the whole token everything is taken out of the invariant
    pub goes_out : (Is : Block → Type 0) (s : Block) → IsReached whose limit s → Is s → (n : ℕ) → s.word ≡ n
        → ⟦ fdead (a ∷ []) ⟧ ∗ (⟦ word b o s.word ⟧ ∗ (⟦ roster c γ 0 (roles s.holders) ⟧ ∗ ⟦ flent (a ∷ []) P ⟧)) ⊢
        ⟦ Leaves Is n ⟧
    goes_out Is s is so n same = qed 𝓛
        (‵ (fdead (a ∷ [])) ∷ ‵ (word b o s.word) ∷ ‵ (roster c γ 0 (roles s.holders)) ∷ ‵ (flent (a ∷ []) P) ∷ [])
        ∵ rewrite ! 1 (λ (m : ℕ). ‵ (word b o m)) same refl $
        move ! (2 ∷ []) $ nothing ! $ fpack ! (IsReached whose limit s × (s.word ≡ n) × Is s) (λ _. ftrue)
        (is, same, so) $ move ! (1 ∷ 0 ∷ []) $ fjoin ! $
        fpack ! Block (λ s'. fsep (roster c γ 0 (roles s'.holders))
        (fact (IsReached whose limit s' × (s'.word ≡ n) × Is s'))) s $
        move ! (3 ∷ 0 ∷ []) $ fjoin ! $ move ! (1 ∷ 0 ∷ []) $ fjoin ! $ move ! (1 ∷ 0 ∷ []) $ fjoin ! $ done !
