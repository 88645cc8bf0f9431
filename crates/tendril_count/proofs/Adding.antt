-- `Add` on a block's count, under its invariant. Assumes `Logic`.
use Rattle.std.proofs.Common.{◌≡◌, ◌≢◌, ℕ, ◌+◌, ◌<◌, Bool, true, false, List, [], ◌∷◌, ◌++◌, refl, sym}
use Rattle.std.proofs.Common.{◌∙◌, ap, arith, lt-ltb, eq-eqb, ne_eqb, eqb}
use seplogic.Ra.Ura.{Ura}
use base.Logic.{ex, upd, via, upd_i}
use base.Fml.{Share, Fml, ftrue, fsep, fex, flft, flent}
use types.Logic.{Logic}
use types.Kit.{‵, raw, ◌⊛◌, given, ◌$◌, ◌∵◌, !, qed, by, move, drop, split, join, fsplit, fjoin, fpick, fpack, pick}
use types.Kit.{learn, frame, suffices, settle, use1, use2, use3, rewrite, done}
use types.Kit as Kit
use types.Owned.{basic}
use types.RcWeak.{part, rest, takes}
use denote.RawPtr.{block_ptr}
use denote.Steps.{nothing}
use Rattle.core.specs.Sync.RawAtomic.{asks, always}
use Rattle.atomic_table.specs.Seated.{word, seen, roster}
use Rattle.atomic_table.proofs.Roster.{Joined, joins}
use Rattle.tendril_count.specs.Machine.{Reads, Block, Add, holder_at, held, happens, is_held, IsLimit, added}
use Rattle.tendril_count.specs.Machine.{with_holder, add_by}
use native.Mathlib.Decide.{ℕ_discrete}
use mathlib.Core.Logic.{dite}
use Rattle.tendril_count.proofs.Totals.{joined, up}
use prog.Atomic.{either}
use Rattle.tendril_count.specs.Rule.{Role, Reader, roles, role_coded, Threads, join_gives}
use Rattle.tendril_count.specs.Rule.{IsReached, IsTurn, mark, live, state}
use Rattle.tendril_count.proofs.Reached.{one_more_role, reached_kept}
use Rattle.tendril_count.proofs.Opening.{now, after_upd, opened, share_alive, turned, shut, reached}
use Rattle.tendril_count.proofs.Notation.{c, propositions, counted}

module _ {M : Type 1} {𝓤 : Ura M} (𝓛 : Logic 𝓤) (whose : Threads) (limit : ℕ) (P : Fml) (b o a γ : ℕ) where
  infix 26 ◌⊢◌
  infixr 35 ◌∗◌
  open 𝓛 use {H, A}
  open propositions 𝓛 use {Pr, ◌⊢◌, ◌∗◌, ⟦◌⟧}
  open counted 𝓛 whose limit P b o a γ use {I, Beside}

  -- `Add` by compare and exchange of `old`, which is below the limit. A share of the mark is enough
  module _ (low : IsLimit limit) (k t : ℕ) (turn : IsTurn whose t) (r q : Share) (old : ℕ) (lower : old < limit) where
    abbrev pub Joins : ℕ → Fml
    Joins n = fsep (seen c γ k r Reader)
        (fsep (flft (a ∷ []) q) (fex Bool (join_gives c whose limit P b o a γ old n)))

    abbrev pub one_more : ℕ → ℕ
    one_more n = either (eqb n old) (old + 1) n

    grown : (s : Block) → IsReached whose limit s → 0 < held s → holder_at s.holders k ≡ Reads t → s.word ≡ old
        → ⟦ word b o (one_more s.word) ⟧
        ∗ (⟦ roster c γ 0 (roles s.holders) ⟧
        ∗ (⟦ rest 63 a (held s) ⟧ ∗ (⟦ flent (a ∷ []) P ⟧ ∗ (⟦ seen c γ k r Reader ⟧ ∗ A.lft (a ∷ []) q)))) ⊢
        upd 𝓤 (⟦ I ⟧ ∗ ⟦ Joins s.word ⟧)
    grown s is some_held at same = let s' : Block = added limit s k t true in
        let Z : Pr = ⟦ I ⟧ ∗ ⟦ Joins s.word ⟧ in let kept = reached_kept whose limit low s is in
        let J : ℕ → Fml = λ j. mark c γ j Reader in
        let more : held s + 1 ≡ held s' = omega (arith, joined is_held s.holders (Reads t)) in
        let below : s.word < limit = omega (arith, same, lower) in
        let next : one_more s.word ≡ s'.word = ap (λ (y : Bool). either y (old + 1) s.word) (eq-eqb s.word old same)
        ∙ omega (arith, same, up s.word (omega (arith, below, low.1))) in
        let sends : happens limit s (Add k) ≡ s' = ap (add_by limit s k) at
        ∙ ap (added limit s k t) (lt-ltb s.word limit below) in
        qed 𝓛 (‵ (word b o (one_more s.word)) ∷ ‵ (roster c γ 0 (roles s.holders)) ∷ ‵ (rest 63 a (held s)) ∷ ‵
        (flent (a ∷ []) P) ∷ ‵ (seen c γ k r Reader) ∷ ‵ (flft (a ∷ []) q) ∷ []) ∵
        rewrite ! 0 (λ (m : ℕ). ‵ (word b o m)) next refl $ move ! (1 ∷ []) $
        use1 𝓛 (raw (upd 𝓤 (ex 𝓤 (Joined 𝓛 role_coded γ 0 (roles s.holders) Reader))))
        (joins 𝓛 role_coded γ (roles s.holders) 0 Reader) $
        settle 𝓛 Z (Kit.some (λ (j : ℕ). ‵ (roster c γ 0 (roles s.holders ++ Reader ∷ [])) ⊛ ‵ (J j))) $
        pick ! (λ j. split ! $ suffices ! _ (upd_i 𝓤 Z) $
        rewrite ! 0 (λ (rs : List Role). ‵ (roster c γ 0 rs)) (one_more_role s.holders (Reads t)) refl $
        move ! (3 ∷ []) $
        use1 𝓛 (‵ (rest 63 a (held s + 1)) ⊛ ‵ (part 63 a))
        (takes 63 𝓛 a (held s) (omega (arith, kept.within, low.1))) $ split ! $
        rewrite ! 0 (λ (m : ℕ). ‵ (rest 63 a m)) more refl $
        -- [rest; part; roster; new mark; word; P; the share; the token]
        move ! (0 ∷ 5 ∷ []) $ join ! $ move ! (4 ∷ 2 ∷ 0 ∷ []) $
        use3 𝓛 (‵ I) (shut 𝓛 whose limit P b o a γ low s'
        (reached 𝓛 whose limit P b o a γ low s (Add k) s' sends refl is) (omega (arith, more))) $ frame ! $
        -- [part; new mark; the share; the token]
        move ! (1 ∷ []) $ fpack ! ℕ J j $ fjoin ! $ nothing ! $ fpack ! (s.word ≡ old) (λ _. ftrue) same $ fjoin ! $
        fpack ! Bool (join_gives c whose limit P b o a γ old s.word) true $
        move ! (2 ∷ 0 ∷ []) $ fjoin ! $ move ! (1 ∷ 0 ∷ []) $ fjoin ! $ done !)

    found_same : (s : Block) → s.word ≡ old → ⟦ word b o (one_more s.word) ⟧
        ∗ (⟦ Beside s ⟧ ∗ (⟦ seen c γ k r Reader ⟧ ∗ A.lft (a ∷ []) q)) ⊢ upd 𝓤 (⟦ I ⟧ ∗ ⟦ Joins s.word ⟧)
    found_same s same = let s' : Block = with_holder s k (Reads t) in
        qed 𝓛 (‵ (word b o (one_more s.word)) ∷ ‵ (Beside s) ∷ ‵ (seen c γ k r Reader) ∷ ‵ (flft (a ∷ []) q) ∷ []) ∵
        move ! (1 ∷ 2 ∷ []) $
        use2 𝓛 (given (holder_at s'.holders k ≡ Reads t) (‵ (Beside s') ⊛ ‵ (seen c γ k r Reader)))
        (turned 𝓛 whose limit P b o a γ low s k t r turn) $ learn ! (λ at.
        split ! $ fsplit ! $ move ! (1 ∷ []) $ fsplit ! $
        fpick ! (λ so. drop ! $ fsplit ! $
        -- [rest; P; roster; the share; word; the token]
        move ! (4 ∷ 2 ∷ 0 ∷ 1 ∷ 3 ∷ 5 ∷ []) $ by ! (grown s' so.0 so.1 at same)))

    -- the `Add` of a block of one thread, which found `old`
    pub joins_plainly : (s : Block) → s.word ≡ old → ⟦ word b o (old + 1) ⟧
        ∗ (⟦ Beside s ⟧ ∗ (⟦ seen c γ k r Reader ⟧ ∗ A.lft (a ∷ []) q)) ⊢ H.⇛ (⟦ I ⟧ ∗ ⟦ Joins s.word ⟧)
    joins_plainly s same = let is : one_more s.word ≡ old + 1 =
        ap (λ (y : Bool). either y (old + 1) s.word) (eq-eqb s.word old same) in
        via 𝓤 (upd 𝓤 (⟦ I ⟧ ∗ ⟦ Joins s.word ⟧))
        (qed 𝓛 (‵ (word b o (old + 1)) ∷ ‵ (Beside s) ∷ ‵ (seen c γ k r Reader) ∷ ‵ (flft (a ∷ []) q) ∷ []) ∵
        rewrite ! 0 (λ (m : ℕ). ‵ (word b o m)) (sym is) refl $ by ! (found_same s same)) (basic 𝓛 _)

    same_word : (s : Block) → s.word ≢ old → one_more s.word ≡ s.word
    same_word s other = ap (λ (y : Bool). either y (old + 1) s.word) (ne_eqb s.word old other)

    pub joins_at : A.inv I ∗ (⟦ seen c γ k r Reader ⟧ ∗ A.lft (a ∷ []) q) ⊢ asks 𝓛 (block_ptr b o) one_more always
        Joins
    joins_at = opened 𝓛 whose limit P b o a γ one_more Joins (⟦ seen c γ k r Reader ⟧ ∗ A.lft (a ∷ []) q)
        (share_alive 𝓛 whose limit P b o a γ low ⟦ seen c γ k r Reader ⟧ q) (λ j s fits.
        dite (ℕ_discrete s.word old)
        (λ same. after_upd 𝓛 whose limit P b o a γ j _ (Joins s.word) (found_same s same))
        (λ other. via 𝓤 (⟦ I ⟧ ∗ ⟦ Joins s.word ⟧)
        (qed 𝓛 (‵ (word b o (one_more s.word)) ∷ ‵ (Beside s) ∷ ‵ (seen c γ k r Reader) ∷ ‵
        (flft (a ∷ []) q) ∷ []) ∵ rewrite ! 0 (λ (m : ℕ). ‵ (word b o m)) (same_word s other) refl $
        fjoin ! $ fpack ! Block (live c whose limit P b o a γ) s $
        fpack ! Bool (state c whose limit P b o a γ) true $ frame ! $
        nothing ! $ fpack ! (s.word ≢ old) (λ _. ftrue) other $
        fpack ! Bool (join_gives c whose limit P b o a γ old s.word) false $ move ! (2 ∷ 0 ∷ []) $ fjoin ! $
        move ! (1 ∷ 0 ∷ []) $ fjoin ! $ done !) (now 𝓛 whose limit P b o a γ j (Joins s.word))))
