-- Notation for the proofs about a block's count: they open it with their own arguments. Assumes `Logic`.
use Rattle.std.proofs.Common.{◌≡◌, ℕ, ◌<◌, [], ◌∷◌}
use seplogic.Ra.Ura.{Ura}
use base.Stored.{Gv}
use base.Logic.{SProp, ent, sep, wand}
use base.Fml.{Fml, flent}
use types.Logic.{Logic, sem}
use Rattle.core.specs.Sync.RawAtomic.{shifted, if_none}
use Rattle.atomic_table.specs.Seated.{word, roster}
use Rattle.tendril_count.specs.Machine.{Reads, Block, holder_at, held, with_holder}
use Rattle.tendril_count.specs.Rule.{Role, Reader, roles, role_coded, Threads, IsReached, mark, beside, Inv, out}

abbrev pub c : Role → Gv
c = role_coded.code

module _ {M : Type 1} (𝓤 : Ura M) where
  pub record Propositions : Type 3 where
    pub Pr : Type 2
    pub ◌⊢◌ : Pr → Pr → Type 1
    pub ◌∗◌ : Pr → Pr → Pr
    pub ◌-∗◌ : Pr → Pr → Pr
    pub ⟦◌⟧ : Fml → Pr

  pub record Counted : Type 2 where
    pub I : Fml
    pub Beside : Block → Fml
    -- the remainder of a step, with the invariant open
    pub Goes : ℕ → Fml → SProp 𝓤

  -- of a step by thread t for reference k
  pub record Step : Type 2 where
    pub Mine : Fml
    -- the machine after the reference passed to the thread that takes the step
    pub Turned : Block → Block
    pub Told : Block → Type 0
    pub Leaves : (Block → Type 0) → ℕ → Fml
    -- what the step owns apart from the token, with the count n
    pub Taken : Block → ℕ → SProp 𝓤

module _ {M : Type 1} {𝓤 : Ura M} (𝓛 : Logic 𝓤) where
  abbrev pub propositions : Propositions 𝓤
  propositions = record { Pr = SProp 𝓤; ◌⊢◌ = ent 𝓤; ◌∗◌ = sep 𝓤; ◌-∗◌ = wand 𝓤; ⟦◌⟧ = sem 𝓛 }

  module _ (whose : Threads) (limit : ℕ) (P : Fml) (b o a γ : ℕ) where
    infixr 35 ◌∗◌
    open propositions use {◌∗◌, ⟦◌⟧}

    abbrev pub counted : Counted 𝓤
    counted = record {
      I = Inv c whose limit P b o a γ;
      Beside = beside c whose limit P b o a γ;
      Goes = λ j Q. shifted 𝓛 (if_none 𝓛 ⟦ Q ⟧) ((j, Inv c whose limit P b o a γ) ∷ []);
    }

    abbrev pub step : ℕ → ℕ → Step 𝓤
    step k t = record {
      Mine = mark c γ k Reader;
      Turned = λ s. with_holder s k (Reads t);
      Told = λ s. IsReached whose limit s × (0 < held s) × (holder_at s.holders k ≡ Reads t);
      Leaves = out c whose limit P b o a γ;
      Taken = λ s n. ⟦ flent (a ∷ []) P ⟧
          ∗ (⟦ roster c γ 0 (roles s.holders) ⟧ ∗ (⟦ word b o n ⟧ ∗ ⟦ mark c γ k Reader ⟧));
    }
