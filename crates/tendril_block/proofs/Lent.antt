-- A `&` to a reference owns shares of its lifetime's token and of its mark, the invariant and what is shared.
-- The mark is whole again when the `&` ends. Assumes `Logic`.
use Rattle.std.proofs.Common.{ℕ, [], ◌∷◌}
use seplogic.Ra.Ura.{Ura}
use base.FractionLaws.{Counts}
use base.Logic.{SProp, ent, sep, upd_i, id⊢, apply∗, wand}
use base.Fml.{Lft, Share, Fml, ftrue, fsep, fseps, fex, fwand, fupd, fdead, fbor, flft}
use contract.BorrowLft.{meet_⊑_left}
use ghost.Rules.{span, thinned}
use types.Logic.{Logic, sem, lfts}
use types.Kit.{frame, ‵, raw, ◌⊛◌, some as exists, later, ◌$◌, ◌∵◌, !, qed, by, move, keep, use1, use2, split, fsplit}
use types.Kit.{fsplit3, fjoin, fjoin3, fpick, fpack, pick, assume, suffices, await, updating, now, done}
use types.Tokens.{bor_open, obor_alter, bor_fracture, one_token}
use types.RcWeak.{part, part_in}
use denote.Sharing.{ShrLaws, one, beside, some, held}
use denote.SharingLaws.{contraction, some_shr_laws, beside_shr_laws, one_shr_laws, held_shr_laws}
use denote.Moves.{moves_from}
use denote.Steps.{nothing}
use denote.Struct.Lending.{Lends}
use base.Share.{three_quarters}
use Rattle.atomic_table.specs.Seated.{seen}
use Rattle.tendril_count.specs.Rule.{role_coded, Reader, mark}

-- the lifetime, the ghost name, the number of the reference, and the thread that takes its steps
abbrev pub Id : Type 0
Id = ℕ × ℕ × ℕ × ℕ

-- R i is the invariant of the reference i
module _ (R : Id → Fml) (dup : (i : Id) (W : Type 1) (𝓤 : Ura W) (𝓛 : Logic 𝓤)
    → ent 𝓤 (sem 𝓛 (R i)) (sep 𝓤 (sem 𝓛 (R i)) (sem 𝓛 (R i)))) (s : Lft → Fml) (L : ShrLaws s) where
  abbrev M : Id → Fml
  M i = mark role_coded.code i.1 i.2 Reader

  abbrev M_of : Id → Share → Fml
  M_of i q = seen role_coded.code i.1 i.2 q Reader

  abbrev pub holder_owns : Id → Fml
  holder_owns i = fsep (part 63 i.0) (fsep (R i) (fsep (M i) (s (i.0 ∷ []))))

  abbrev pub holder_shares : Id → Lft → Fml
  holder_shares i = beside (one (λ q. flft (i.0 ∷ []) q))
      (beside (one (M_of i)) (beside (λ _. R i) (held (i.0 ∷ []) s)))

  module _ {W : Type 1} {𝓤 : Ura W} (𝓛 : Logic 𝓤) (κ : Lft) where
    open 𝓛 use {H, A}

    abbrev Owns : Fml
    Owns = fex Id holder_owns

    abbrev Lent : Fml
    Lent = some Id holder_shares κ

    again : (i : Id) (e : Share) → Counts 63 e 1
        → ent 𝓤 (sep 𝓤 (sem 𝓛 (R i)) (sem 𝓛 (s (i.0 ∷ []))))
        (sem 𝓛 (fwand (fsep (fdead κ) (fseps (flft (i.0 ∷ []) e ∷ M i ∷ []))) (fupd Owns)))
    unfolding fseps
    again i e c = qed 𝓛 (‵ (R i) ∷ ‵ (s (i.0 ∷ [])) ∷ []) ∵
        assume ! (‵ (fsep (fdead κ) (fsep (flft (i.0 ∷ []) e) (fsep (M i) ftrue)))) $
        suffices ! (sem 𝓛 Owns) (upd_i 𝓤 (sem 𝓛 Owns)) $
        fsplit3 ! $ move ! (1 ∷ []) $ use1 𝓛 (‵ (part 63 i.0)) (part_in 63 𝓛 i.0 e c) $ move ! (2 ∷ []) $ fsplit ! $
        -- [the mark; nothing; the part; the end; the invariant; what is shared]
        keep ! (0 ∷ 5 ∷ 2 ∷ 4 ∷ []) $ fjoin ! $ move ! (1 ∷ 2 ∷ 0 ∷ []) $ fjoin3 ! $ fpack ! Id holder_owns i $ done !

    by_token : (q : Share) → ent 𝓤 (sep 𝓤 (A.bor κ Owns) (A.lft κ q)) (H.⇛ (sep 𝓤 (sem 𝓛 Lent) (A.lft κ q)))
    unfolding fseps
    by_token q = qed 𝓛 (‵ (fbor κ Owns) ∷ ‵ (flft κ q) ∷ []) ∵ updating ! $ bor_open ! tt $ move ! (1 ∷ []) $
        fpick ! (λ i. fsplit3 ! $ fpick ! (λ e. fpick ! (λ c. move ! (1 ∷ []) $
        use1 𝓛 (‵ (R i) ⊛ ‵ (R i)) (dup i W 𝓤 𝓛) $ split ! $ move ! (3 ∷ []) $ fsplit ! $ move ! (1 ∷ []) $
        use1 𝓛 (‵ (s (i.0 ∷ [])) ⊛ ‵ (s (i.0 ∷ []))) (contraction 𝓛 s L (i.0 ∷ [])) $ split ! $
        -- [shared; shared; mark; invariant; invariant; token; the open borrow]
        move ! (3 ∷ 0 ∷ []) $ types.Kit.group ! 2 $
        use1 𝓛 (‵ (fwand (fsep (fdead κ) (fseps (flft (i.0 ∷ []) e ∷ M i ∷ []))) (fupd Owns))) (again i e c) $
        -- [the way back; shared; mark; invariant; token; the open borrow]
        nothing ! $ move ! (3 ∷ 0 ∷ []) $ fjoin ! $ move ! (4 ∷ 0 ∷ []) $ fjoin ! $ move ! (4 ∷ 0 ∷ 1 ∷ []) $
        obor_alter ! tt (flft (i.0 ∷ []) e ∷ M i ∷ []) $
        use1 𝓛 (‵ (fbor κ (flft (i.0 ∷ []) e)) ⊛ ‵ (fbor κ (M i)) ⊛ ‵ ftrue) (id⊢ 𝓤 _) $ types.Kit.split3 ! $
        bor_fracture ! tt (λ r. flft (i.0 ∷ []) r) e $ move ! (1 ∷ []) $ bor_fracture ! tt (M_of i) three_quarters $
        -- [the marks; the tokens; nothing; the token; shared; invariant]
        move ! (5 ∷ 4 ∷ []) $ fjoin ! $ move ! (2 ∷ 1 ∷ 0 ∷ []) $ fjoin3 ! $ fpack ! Id (λ j. holder_shares j κ) i $
        now ! $ keep ! (0 ∷ 2 ∷ []) $ done !)))

  -- the law of sharing, for what a reference owns
  pub Lends-holder : {W : Type 1} {𝓤 : Ura W} (𝓛 : Logic 𝓤) (l : Lft)
      → Lends 𝓛 (fex Id holder_owns) (some Id holder_shares) l
  Lends-holder {𝓤 = 𝓤} 𝓛 l κ ts inc sp = let A = 𝓛.A in let H = 𝓛.H in
      qed 𝓛 (‵ (fbor κ (Owns 𝓛 κ)) ∷ raw (lfts 𝓛 ts) ∷ []) ∵ updating ! $ move ! (1 ∷ []) $
      use1 𝓛 (exists (λ (q : Share). ‵ (flft (span ts) q) ⊛ raw (wand 𝓤 (𝓛.A.lft (span ts) q) (lfts 𝓛 ts))))
      (one_token 𝓛 ts) $ pick ! (λ q. split ! $
      use1 𝓛 (‵ (flft κ (thinned κ q)) ⊛ raw (wand 𝓤 (𝓛.A.lft κ (thinned κ q)) (𝓛.A.lft (span ts) q)))
      (𝓛.lfts.lft-incl (span ts) κ q sp) $ split ! $ move ! (3 ∷ 0 ∷ []) $
      use2 𝓛 (later (‵ (Lent 𝓛 κ) ⊛ ‵ (flft κ (thinned κ q)))) (by_token 𝓛 κ (thinned κ q)) $ await ! tt $ split ! $
      move ! (1 ∷ 2 ∷ []) $
      use2 𝓛 (‵ (flft (span ts) q)) (apply∗ 𝓤 (𝓛.A.lft κ (thinned κ q)) (𝓛.A.lft (span ts) q)) $ move ! (0 ∷ 2 ∷ []) $
      use2 𝓛 (raw (lfts 𝓛 ts)) (apply∗ 𝓤 (𝓛.A.lft (span ts) q) (lfts 𝓛 ts)) $
      now ! $ move ! (1 ∷ 0 ∷ []) $ done !)

  kept_laws : (i : Id) → ShrLaws (λ _. R i)
  kept_laws i = record {
    contraction = λ M 𝓤 𝓛 _. dup i M 𝓤 𝓛;
    mono =
        λ M 𝓤 𝓛 κ' κ. base.Logic.snd∗ 𝓤 (sem 𝓛 (base.Before.before κ' κ)) (sem 𝓛 (R i));
  }

  pub holder_shr_laws : ShrLaws (some Id holder_shares)
  holder_shr_laws = some_shr_laws Id holder_shares
      (λ i. beside_shr_laws (one (λ q. flft (i.0 ∷ []) q))
      (beside (one (M_of i)) (beside (λ _. R i) (held (i.0 ∷ []) s))) (one_shr_laws (λ q. flft (i.0 ∷ []) q))
      (beside_shr_laws (one (M_of i)) (beside (λ _. R i) (held (i.0 ∷ []) s)) (one_shr_laws (M_of i))
      (beside_shr_laws (λ _. R i) (held (i.0 ∷ []) s) (kept_laws i) (held_shr_laws (i.0 ∷ []) s L))))

  -- a `&` to a reference gives what is shared
  pub sees : {W : Type 1} {𝓤 : Ura W} (𝓛 : Logic 𝓤) (κ : Lft) → ent 𝓤 (sem 𝓛 (some Id holder_shares κ)) (sem 𝓛 (s κ))
  sees {𝓤 = 𝓤} 𝓛 κ = qed 𝓛 (‵ (some Id holder_shares κ) ∷ []) ∵
      fpick ! (λ i. fsplit3 ! $ move ! (2 ∷ []) $ fsplit ! $ keep ! (2 ∷ 1 ∷ []) $
      by ! (moves_from 𝓛 s L κ (i.0 ∷ []) (i.0 ∷ []) (meet_⊑_left (i.0 ∷ []) κ)))
