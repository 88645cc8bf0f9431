-- The load of `Alone` from a block's count, under its invariant. Assumes `Logic`.
use Rattle.std.proofs.Common.{◌≡◌, ◌≢◌, ℕ, Bool, true, false, [], ◌∷◌, refl, ◌∙◌, ap, eq-eqb, if◌then◌else◌}
use seplogic.Ra.Ura.{Ura}
use base.Fraction.{full_share}
use base.Logic.{upd, via, upd_i}
use base.Fml.{Fml, ftrue, fex, flft, fdead, flent}
use types.Logic.{Logic}
use types.Kit.{‵, raw, ◌⊛◌, given, later, ◌$◌, ◌∵◌, !, qed, by, move, split, group, fjoin, fpack, learn, frame}
use types.Kit.{suffices, settle, updating, await, use1, use2, done}
use types.Kit as Kit
use types.Tokens.{lft_end}
use types.Owned.{basic}
use types.RcWeak.{part}
use denote.RawPtr.{block_ptr}
use denote.Steps.{nothing}
use Rattle.core.specs.Sync.RawAtomic.{asks, always}
use Rattle.atomic_table.specs.Seated.{word, roster}
use Rattle.tendril_count.specs.Machine.{Writes, Block, Alone, holder_at, is_held, IsLimit, with_holder, alone_by}
use native.Mathlib.Decide.{ℕ_discrete}
use mathlib.Core.Logic.{dite}
use Rattle.tendril_count.specs.Rule.{Reader, Writer, role, roles, Threads, alone_gives, IsTurn, mark, live, state}
use Rattle.tendril_count.proofs.Reached.{at_becomes}
use Rattle.tendril_count.proofs.Opening.{now, ending, opened, part_alive, marked, reached}
use Rattle.tendril_count.proofs.Emptying.{gathers, goes_out}
use Rattle.tendril_count.proofs.Notation.{c, propositions, counted, step}

module _ {M : Type 1} {𝓤 : Ura M} (𝓛 : Logic 𝓤) (whose : Threads) (limit : ℕ) (P : Fml) (b o a γ : ℕ) where
  infix 26 ◌⊢◌
  infixr 35 ◌∗◌
  open 𝓛 use {H, A}
  open propositions 𝓛 use {Pr, ◌⊢◌, ◌∗◌, ⟦◌⟧}
  open counted 𝓛 whose limit P b o a γ use {I, Beside, Goes}

  module _ (low : IsLimit limit) (k t : ℕ) (turn : IsTurn whose t) where
    open step 𝓛 whose limit P b o a γ k t use {Mine, Turned, Told, Leaves, Taken}

    -- the load of `Alone`
    abbrev pub Seen : ℕ → Fml
    Seen n = fex Bool (alone_gives c whose limit P b o a γ k t n)

    writes : (s : Block) → Told s → s.word ≡ 1 → A.dead (a ∷ []) ∗ Taken s s.word ⊢ upd 𝓤 ⟦ Seen s.word ⟧
    writes s so one = let s' : Block = with_holder s k (Writes t) in
        let Is : Block → Type 0 = λ x. holder_at x.holders k ≡ Writes t in
        qed 𝓛 (‵ (fdead (a ∷ [])) ∷ ‵ (flent (a ∷ []) P) ∷ ‵ (roster c γ 0 (roles s.holders)) ∷ ‵
        (word b o s.word) ∷ ‵ Mine ∷ []) ∵ move ! (2 ∷ 4 ∷ []) $
        use2 𝓛 (given (role (holder_at s.holders k) ≡ Reader)
        (raw (upd 𝓤 (⟦ roster c γ 0 (roles s'.holders) ⟧ ∗ ⟦ mark c γ k Writer ⟧))))
        (marked 𝓛 whose limit P b o a γ low s k Reader (Writes t)) $ learn ! (λ _.
        settle 𝓛 ⟦ Seen s.word ⟧ (‵ (roster c γ 0 (roles s'.holders)) ⊛ ‵ (mark c γ k Writer)) $ split ! $
        suffices ! _ (upd_i 𝓤 ⟦ Seen s.word ⟧) $ move ! (2 ∷ 4 ∷ 0 ∷ 3 ∷ []) $ group ! 4 $
        use1 𝓛 (‵ (Leaves Is 1)) (goes_out 𝓛 whose limit P b o a γ low k t turn Is s'
        (reached 𝓛 whose limit P b o a γ low s (Alone k) s' (ap (alone_by s k) so.2
        ∙ ap (λ (y : Bool). if y then s' else s) (eq-eqb s.word 1 one)) refl so.0)
        (at_becomes s.holders k (Writes t) (ap is_held so.2)) 1 one) $ move ! (1 ∷ 0 ∷ []) $ fjoin ! $ nothing ! $
        fpack ! (s.word ≡ 1) (λ _. ftrue) one $ fjoin ! $
        fpack ! Bool (alone_gives c whose limit P b o a γ k t s.word) true $ done !)

    reads_on_as_before : (s : Block) → s.word ≢ 1
        → ⟦ word b o s.word ⟧ ∗ (⟦ Beside s ⟧ ∗ (⟦ Mine ⟧ ∗ ⟦ part 63 a ⟧)) ⊢ ⟦ I ⟧ ∗ ⟦ Seen s.word ⟧
    reads_on_as_before s more = qed 𝓛 (‵ (word b o s.word) ∷ ‵ (Beside s) ∷ ‵ Mine ∷ ‵ (part 63 a) ∷ []) ∵ fjoin ! $
        fpack ! Block (live c whose limit P b o a γ) s $ fpack ! Bool (state c whose limit P b o a γ) true $ frame ! $
        fjoin ! $ nothing ! $ fpack ! (s.word ≢ 1) (λ _. ftrue) more $ fjoin ! $
        fpack ! Bool (alone_gives c whose limit P b o a γ k t s.word) false $ done !

    pub looks : A.inv I ∗ (⟦ Mine ⟧ ∗ ⟦ part 63 a ⟧) ⊢ asks 𝓛 (block_ptr b o) (λ n. n) always Seen
    looks = opened 𝓛 whose limit P b o a γ (λ n. n) Seen (⟦ Mine ⟧ ∗ ⟦ part 63 a ⟧)
        (part_alive 𝓛 whose limit P b o a γ low ⟦ Mine ⟧) (λ j s fits.
        dite (ℕ_discrete s.word 1) (λ one. sees_one j s one)
        (λ more. via 𝓤 (⟦ I ⟧ ∗ ⟦ Seen s.word ⟧) (reads_on_as_before s more)
        (now 𝓛 whose limit P b o a γ j (Seen s.word))))
      where
        sees_one : (j : ℕ) (s : Block) → s.word ≡ 1 → ⟦ word b o s.word ⟧ ∗ ⟦ Beside s ⟧
            ∗ (⟦ Mine ⟧ ∗ ⟦ part 63 a ⟧) ⊢ Goes j (Seen s.word)
        sees_one j s one = let X : Pr = Taken (Turned s) s.word in
            qed 𝓛 (‵ (word b o s.word) ∷ ‵ (Beside s) ∷ ‵ Mine ∷ ‵ (part 63 a) ∷ []) ∵ group ! 4 $
            use1 𝓛 (given (Told (Turned s)) (‵ (flft (a ∷ []) full_share) ⊛ raw X))
            (gathers 𝓛 whose limit P b o a γ low k t turn s s.word one) $
            learn ! (λ so. by ! (ending 𝓛 whose limit P b o a γ j X (Seen s.word) (writes (Turned s) so one)))

    -- the load of a block of one thread, which owns the content of the invariant meanwhile
    pub looks_plainly : (s : Block) → ⟦ word b o s.word ⟧ ∗ (⟦ Beside s ⟧ ∗ (⟦ Mine ⟧ ∗ ⟦ part 63 a ⟧)) ⊢ H.⇛
        (⟦ I ⟧ ∗ ⟦ Seen s.word ⟧)
    looks_plainly s = dite (ℕ_discrete s.word 1)
        (λ one. let X : Pr = Taken (Turned s) s.word in
        qed 𝓛 (‵ (word b o s.word) ∷ ‵ (Beside s) ∷ ‵ Mine ∷ ‵ (part 63 a) ∷ []) ∵ updating ! $ group ! 4 $
        use1 𝓛 (given (Told (Turned s)) (‵ (flft (a ∷ []) full_share) ⊛ raw X))
        (gathers 𝓛 whose limit P b o a γ low k t turn s s.word one) $
        learn ! (λ so. split ! $ lft_end ! tt $
        use1 𝓛 (‵ (fdead (a ∷ [])) ⊛ ‵ (fdead (a ∷ []))) (𝓛.lfts.dead_dup (a ∷ [])) $ split ! $
        move ! (1 ∷ 2 ∷ []) $ use2 𝓛 (raw (upd 𝓤 ⟦ Seen s.word ⟧)) (writes (Turned s) so one) $
        use1 𝓛 (later (‵ (Seen s.word))) (basic 𝓛 ⟦ Seen s.word ⟧) $ await ! tt $ move ! (1 ∷ []) $
        fpack ! Bool (state c whose limit P b o a γ) false $ Kit.now ! $ done !))
        (λ more. via 𝓤 (⟦ I ⟧ ∗ ⟦ Seen s.word ⟧) (reads_on_as_before s more) (𝓛.laws.⇛_intro _))
