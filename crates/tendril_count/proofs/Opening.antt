-- The invariant of a block's count is opened, read, and closed again. Assumes `Logic`.
use Rattle.std.proofs.Common.{◌≡◌, ℕ, ◌^◌, ◌<◌, Bool, true, false, List, [], ◌∷◌, refl, ap, subst, arith, w64}
use mathlib.Core.Option.{some}
use mathlib.Core.List.{Mem, not-mem-nil}
use lib.ListN.{get_elem?}
use seplogic.Ra.Ura.{Ura}
use mir.Syntax.{ty_int}
use mir.Val.{vint, has_ty, WT}
use base.Fraction.{full_share}
use base.Logic.{ex, all, guard, upd, emp, never, never_e, via, id⊢, apply∗, ex_i, all_e, upd_i}
use base.Fml.{Share, Fml, ftrue, fsep, fex, flft, fdead, flent, finv, fnamed}
use types.Logic.{Logic}
use types.Kit.{‵, raw, ◌⊛◌, given, ◌$◌, ◌∵◌, !, qed, by, move, drop, split, fsplit, fjoin, fpick, fpack, pick, learn}
use types.Kit.{show, check, frame, each, assume, suffices, settle, use1, use2, rewrite, done}
use types.Kit as Kit
use types.RcWeak.{part, rest}
use denote.RawPtr.{block_ptr}
use denote.Steps.{nothing}
use Rattle.core.specs.Sync.RawAtomic.{Shift, rests, ends, enters, leaves, asks, always, along, if_none, back, found}
use Rattle.atomic_table.specs.Seated.{word, seen, roster}
use Rattle.atomic_table.proofs.Roster.{Moved, moves}
use Rattle.tendril_count.specs.Machine.{Holder, Reads, Block, CountStep, holder_at, becomes, held, happens, is_held}
use Rattle.tendril_count.specs.Machine.{IsLimit, with_holder}
use Rattle.tendril_count.proofs.Totals.{changed}
use Rattle.tendril_count.proofs.Parts.{told}
use Rattle.tendril_count.specs.Rule.{Role, Reader, role, roles, role_coded, Threads, stays}
use Rattle.tendril_count.specs.Rule.{IsReached, IsTurn, mark, live, state}
use Rattle.tendril_count.proofs.Reached.{found_at, set_is, same_roles, at_becomes, reads_on}
use Rattle.tendril_count.proofs.Reached.{reached_step, reached_pass, reached_kept}
use Rattle.tendril_count.proofs.Notation.{c, propositions, counted}

module _ {M : Type 1} {𝓤 : Ura M} (𝓛 : Logic 𝓤) (whose : Threads) (limit : ℕ) (P : Fml) (b o a γ : ℕ) where
  infix 26 ◌⊢◌
  infixr 35 ◌∗◌
  infixr 30 ◌-∗◌
  open 𝓛 use {A}
  open propositions 𝓛 use {Pr, ◌⊢◌, ◌∗◌, ◌-∗◌, ⟦◌⟧}
  open counted 𝓛 whose limit P b o a γ use {I, Beside, Goes}

  pub now : (j : ℕ) (Q : Fml) → ⟦ I ⟧ ∗ ⟦ Q ⟧ ⊢ Goes j Q
  now j Q = let L = (j, I) ∷ [] in let T : Pr = upd 𝓤 ⟦ Q ⟧ in
      qed 𝓛 (‵ I ∷ ‵ Q ∷ []) ∵ suffices ! _ (ex_i 𝓤 (λ (s : Shift). along 𝓛 s (if_none 𝓛 ⟦ Q ⟧) L) (leaves rests)) $
      suffices ! _ (upd_i 𝓤 (⟦ I ⟧ ∗ T)) $ frame ! $ suffices ! _ (upd_i 𝓤 ⟦ Q ⟧) $ done !

  pub after_upd : (j : ℕ) (X : Pr) (Q : Fml) → X ⊢ upd 𝓤 (⟦ I ⟧ ∗ ⟦ Q ⟧) → X ⊢ Goes j Q
  after_upd j X Q h = let L = (j, I) ∷ [] in let T : Pr = upd 𝓤 ⟦ Q ⟧ in
      qed 𝓛 (raw X ∷ []) ∵ suffices ! _ (ex_i 𝓤 (λ (s : Shift). along 𝓛 s (if_none 𝓛 ⟦ Q ⟧) L) (leaves rests)) $
      use1 𝓛 (raw (upd 𝓤 (⟦ I ⟧ ∗ ⟦ Q ⟧))) h $ settle 𝓛 (⟦ I ⟧ ∗ T) (‵ I ⊛ ‵ Q) $ suffices ! _ (upd_i 𝓤 (⟦ I ⟧ ∗ T)) $
      split ! $ frame ! $ suffices ! _ (upd_i 𝓤 ⟦ Q ⟧) $ done !

  -- the lifetime ends within the step
  pub ending : (j : ℕ) (X : Pr) (Q : Fml) → A.dead (a ∷ []) ∗ X ⊢ upd 𝓤 ⟦ Q ⟧ → A.lft (a ∷ []) full_share ∗ X ⊢ Goes j Q
  ending j X Q h = let L = (j, I) ∷ [] in let T : Pr = upd 𝓤 ⟦ Q ⟧ in let D : Pr = A.dead (a ∷ []) in
      let C : Pr = upd 𝓤 (⟦ I ⟧ ∗ T) in
      qed 𝓛 (‵ (flft (a ∷ []) full_share) ∷ raw X ∷ []) ∵
      suffices ! _ (ex_i 𝓤 (λ (s : Shift). along 𝓛 s (if_none 𝓛 ⟦ Q ⟧) L) (ends a (leaves rests))) $
      suffices ! _ (upd_i 𝓤 (A.lft (a ∷ []) full_share ∗ (D -∗ C))) $ frame ! $ assume ! (‵ (fdead (a ∷ []))) $
      use1 𝓛 (‵ (fdead (a ∷ [])) ⊛ ‵ (fdead (a ∷ []))) (𝓛.lfts.dead_dup (a ∷ [])) $ split ! $
      suffices ! _ (upd_i 𝓤 (⟦ I ⟧ ∗ T)) $
      fpack ! Bool (state c whose limit P b o a γ) false $ frame ! $ by ! h

  pub opened : (f : ℕ → ℕ) (told : ℕ → Fml) (X : Pr) → (⟦ fdead (a ∷ []) ⟧ ∗ X ⊢ never 𝓤)
      → ((j : ℕ) (s : Block) → s.word < 2 ^ 64 → ⟦ word b o (f s.word) ⟧ ∗ ⟦ Beside s ⟧ ∗ X ⊢ Goes j (told s.word))
      → A.inv I ∗ X ⊢ asks 𝓛 (block_ptr b o) f always told
  opened f told X alive law = let K : List (ℕ × Fml) → Pr = λ l. ex 𝓤 (found 𝓛 l b o f always told) in
      qed 𝓛 (‵ (finv I) ∷ raw X ∷ []) ∵ use1 𝓛 (Kit.some (λ (j : ℕ). ‵ (fnamed j I))) (𝓛.invs.inv_named I) $
      pick ! (λ j. let L : List (ℕ × Fml) = (j, I) ∷ [] in let F : Pr = K L in
      suffices ! _ (ex_i 𝓤 (λ (s : Shift). along 𝓛 s K []) (enters j I rests)) $
      suffices ! _ (upd_i 𝓤 (guard 𝓤 (¬ Mem j []) (A.named j I ∗ (⟦ I ⟧ -∗ upd 𝓤 F)))) $
      check ! (λ m. not-mem-nil m) $ frame ! $ assume ! (‵ I) $ suffices ! _ (upd_i 𝓤 F) $
      by ! (cases j))
    where
      cases : (j : ℕ) → ⟦ I ⟧ ∗ X ⊢ ex 𝓤 (found 𝓛 ((j, I) ∷ []) b o f always told)
      cases j = qed 𝓛 (‵ I ∷ raw X ∷ []) ∵ fpick ! (λ y. by ! (at j y))
        where
          at : (j : ℕ) (y : Bool) → ⟦ state c whose limit P b o a γ y ⟧
              ∗ X ⊢ ex 𝓤 (found 𝓛 ((j, I) ∷ []) b o f always told)
          at j false = via 𝓤 (never 𝓤) alive (never_e 𝓤 _)
          at j true = qed 𝓛 (‵ (fex Block (live c whose limit P b o a γ)) ∷ raw X ∷ []) ∵ fpick ! (λ s. fsplit ! $
              use1 𝓛 (given (lib.Dec.T (has_ty (ty_int w64) (vint w64 s.word)) × WT (vint w64 s.word))
              (‵ (word b o s.word))) (𝓛.laws.at_wt full_share (ty_int w64) b o (vint w64 s.word)) $ learn ! (λ g.
              show ! (found 𝓛 ((j, I) ∷ []) b o f always told) s.word $ frame ! $
              each ! (λ (_ : always s.word). back 𝓛 ((j, I) ∷ []) b o f told s.word) (λ _.
              assume ! (‵ (word b o (f s.word))) $ by ! (law j s g.1.fits))))

  module _ (low : IsLimit limit) where
    -- a reference owns a part of the token, so the lifetime is alive
    pub part_alive : (X : Pr) → ⟦ fdead (a ∷ []) ⟧ ∗ (X ∗ ⟦ part 63 a ⟧) ⊢ never 𝓤
    part_alive X = qed 𝓛 (‵ (fdead (a ∷ [])) ∷ raw X ∷ ‵ (part 63 a) ∷ []) ∵ move ! (2 ∷ []) $
        fpick ! (λ e. fpick ! (λ n. move ! (0 ∷ 1 ∷ []) $ use2 𝓛 (raw (never 𝓤)) (𝓛.lfts.lft-dead (a ∷ []) e) $
        by ! (via 𝓤 _ (base.Logic.fst∗ 𝓤 (never 𝓤) X) (id⊢ 𝓤 (never 𝓤)))))

    pub share_alive : (X : Pr) (q : Share) → ⟦ fdead (a ∷ []) ⟧ ∗ (X ∗ A.lft (a ∷ []) q) ⊢ never 𝓤
    share_alive X q = qed 𝓛 (‵ (fdead (a ∷ [])) ∷ raw X ∷ ‵ (flft (a ∷ []) q) ∷ []) ∵ move ! (2 ∷ 0 ∷ []) $
        use2 𝓛 (raw (never 𝓤)) (𝓛.lfts.lft-dead (a ∷ []) q) $
        by ! (via 𝓤 _ (base.Logic.fst∗ 𝓤 (never 𝓤) X) (id⊢ 𝓤 (never 𝓤)))

    -- the invariant is open and the lifetime alive: the block is live
    abbrev pub LiveBeside : Pr → Block → Pr
    LiveBeside X s = guard 𝓤 (s.word < 2 ^ 64) (⟦ word b o s.word ⟧ ∗ (⟦ Beside s ⟧ ∗ X))

    live_at : (X : Pr) → ⟦ fdead (a ∷ []) ⟧ ∗ X ⊢ never 𝓤 → (y : Bool) → ⟦ state c whose limit P b o a γ y ⟧
        ∗ X ⊢ ex 𝓤 (LiveBeside X)
    live_at X alive false = via 𝓤 (never 𝓤) alive (never_e 𝓤 _)
    live_at X alive true = qed 𝓛 (‵ (fex Block (live c whose limit P b o a γ)) ∷ raw X ∷ []) ∵ fpick ! (λ s. fsplit ! $
        use1 𝓛 (given (lib.Dec.T (has_ty (ty_int w64) (vint w64 s.word)) × WT (vint w64 s.word))
        (‵ (word b o s.word))) (𝓛.laws.at_wt full_share (ty_int w64) b o (vint w64 s.word)) $ learn ! (λ g.
        show ! (LiveBeside X) s $ check ! g.1.fits $ done !))

    pub found_live : (X : Pr) → ⟦ fdead (a ∷ []) ⟧ ∗ X ⊢ never 𝓤 → ⟦ I ⟧ ∗ X ⊢ ex 𝓤 (LiveBeside X)
    found_live X alive = qed 𝓛 (‵ I ∷ raw X ∷ []) ∵ fpick ! (λ y. by ! (live_at X alive y))

    pub token_alive : (q : Share) → ⟦ fdead (a ∷ []) ⟧ ∗ A.lft (a ∷ []) q ⊢ never 𝓤
    token_alive q = qed 𝓛 (‵ (fdead (a ∷ [])) ∷ ‵ (flft (a ∷ []) q) ∷ []) ∵ move ! (1 ∷ 0 ∷ []) $
        by ! (𝓛.lfts.lft-dead (a ∷ []) q)

    -- a live block's count is not 0
    pub some_word : (s : Block) → ⟦ Beside s ⟧ ⊢ guard 𝓤 (0 < s.word) ⟦ Beside s ⟧
    some_word s = qed 𝓛 (‵ (Beside s) ∷ []) ∵ fsplit ! $ move ! (1 ∷ []) $ fsplit ! $
        fpick ! (λ so. check ! (let kept = reached_kept whose limit low s so.0 in omega (arith, kept.word, so.1)) $
        fpack ! (IsReached whose limit s × (0 < held s)) (λ _. ftrue) so $ fjoin ! $ move ! (1 ∷ 0 ∷ []) $ fjoin ! $
        done !)

    -- a load that isn't a step needs only a share of the token
    pub peeks : (q : Share) → A.inv I ∗ A.lft (a ∷ []) q ⊢ asks 𝓛 (block_ptr b o) (λ n. n) always (λ _. flft (a ∷ []) q)
    peeks q = let Q : Fml = flft (a ∷ []) q in
        opened (λ n. n) (λ _. Q) (A.lft (a ∷ []) q) (qed 𝓛 (‵ (fdead (a ∷ [])) ∷ ‵ Q ∷ []) ∵ move ! (1 ∷ 0 ∷ []) $
        by ! (𝓛.lfts.lft-dead (a ∷ []) q)) (λ j s fits.
        via 𝓤 (⟦ I ⟧ ∗ ⟦ Q ⟧) (qed 𝓛 (‵ (word b o s.word) ∷ ‵ (Beside s) ∷ ‵ Q ∷ []) ∵ fjoin ! $
        fpack ! Block (live c whose limit P b o a γ) s $ fpack ! Bool (state c whose limit P b o a γ) true $
        done !) (now j Q))

    -- a reference's mark agrees with the machine, and changes with it
    pub marked : (s : Block) (k : ℕ) (r : Role) (h : Holder) → ⟦ roster c γ 0 (roles s.holders) ⟧ ∗ ⟦ mark c γ k r ⟧
        ⊢ guard 𝓤 (role (holder_at s.holders k) ≡ r)
        (upd 𝓤 (⟦ roster c γ 0 (roles (becomes s.holders k h)) ⟧ ∗ ⟦ mark c γ k (role h) ⟧))
    marked s k r h = let rs : List Role = roles s.holders in qed 𝓛 (‵ (roster c γ 0 rs) ∷ ‵ (mark c γ k r) ∷ []) ∵
        use2 𝓛 (given (get_elem? rs k ≡ some r) (raw (all 𝓤 (Moved 𝓛 role_coded γ 0 rs k k))))
        (moves 𝓛 role_coded γ rs 0 k k r (omega arith)) $ learn ! (λ at. check ! (found_at s.holders k r at) $
        use1 𝓛 (raw (Moved 𝓛 role_coded γ 0 rs k k (role h))) (all_e 𝓤 (Moved 𝓛 role_coded γ 0 rs k k) (role h)) $
        by ! (subst (λ (hs : List Role). Moved 𝓛 role_coded γ 0 rs k k (role h) ⊢ upd 𝓤
        (⟦ roster c γ 0 hs ⟧ ∗ ⟦ mark c γ k (role h) ⟧)) (set_is s.holders k h) (id⊢ 𝓤 _)))

    -- a reference that reads passes to the thread that takes its next step
    pub turned : (s : Block) (k u : ℕ) (r : Share) → IsTurn whose u → ⟦ Beside s ⟧ ∗ ⟦ seen c γ k r Reader ⟧
        ⊢ guard 𝓤 (holder_at (becomes s.holders k (Reads u)) k ≡ Reads u)
        (⟦ Beside (with_holder s k (Reads u)) ⟧ ∗ ⟦ seen c γ k r Reader ⟧)
    turned s k u r turn = let s' : Block = with_holder s k (Reads u) in let mine : Fml = seen c γ k r Reader in
        qed 𝓛 (‵ (Beside s) ∷ ‵ mine ∷ []) ∵ fsplit ! $ move ! (1 ∷ []) $ fsplit ! $
        fpick ! (λ so. drop ! $ move ! (1 ∷ 2 ∷ []) $
        use2 𝓛 (given (role (holder_at s.holders k) ≡ Reader) (‵ (roster c γ 0 (roles s.holders)) ⊛ ‵ mine))
        (told 𝓛 γ s.holders k r Reader) $ learn ! (λ at. split ! $
        let on = reads_on (holder_at s.holders k) at in
        let same : held s ≡ held s' = omega (arith, changed is_held s.holders k (Reads u) (Reads on.0) on.1 refl) in
        check ! (at_becomes s.holders k (Reads u) (ap is_held on.1)) $
        rewrite ! 0 (λ (rs : List Role). ‵ (roster c γ 0 rs)) (same_roles s.holders k (Reads u) at) refl $
        rewrite ! 2 (λ (m : ℕ). ‵ (fsep (rest 63 a m) (flent (a ∷ []) P))) same refl $
        -- [roster; mark; rest and P]
        move ! (2 ∷ []) $ nothing ! $ fpack ! (IsReached whose limit s' × (0 < held s')) (λ _. ftrue)
        (reached_pass whose limit s k on.0 u turn so.0 on.1, omega (arith, same, so.1)) $ fjoin ! $
        move ! (1 ∷ 0 ∷ []) $ fjoin ! $ done !))

    -- the invariant is closed again, with the count of the machine
    pub shut : (s : Block) → IsReached whose limit s → 0 < held s
        → ⟦ word b o s.word ⟧ ∗ (⟦ roster c γ 0 (roles s.holders) ⟧ ∗ (⟦ rest 63 a (held s) ⟧ ∗ ⟦ flent (a ∷ []) P ⟧))
        ⊢ ⟦ I ⟧
    shut s is more = qed 𝓛 (‵ (word b o s.word) ∷ ‵ (roster c γ 0 (roles s.holders)) ∷ ‵ (rest 63 a (held s)) ∷ ‵
        (flent (a ∷ []) P) ∷ []) ∵
        move ! (2 ∷ 3 ∷ []) $ fjoin ! $ nothing ! $
        fpack ! (IsReached whose limit s × (0 < held s)) (λ _. ftrue) (is, more) $ fjoin ! $ move ! (2 ∷ 0 ∷ []) $
        fjoin ! $ move ! (1 ∷ 0 ∷ []) $ fjoin ! $
        fpack ! Block (live c whose limit P b o a γ) s $ fpack ! Bool (state c whose limit P b o a γ) true $ done !

    pub reached : (s : Block) (e : CountStep) (s' : Block) → happens limit s e ≡ s' → stays e ≡ true
        → IsReached whose limit s → IsReached whose limit s'
    reached s e s' is stay so = subst (IsReached whose limit) is (reached_step whose limit s so e stay)
