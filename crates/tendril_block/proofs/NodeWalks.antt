-- What the stepwise proofs of `OneThread` share: they own the thread's token, and open an invariant with it.
-- Assumes `Logic`.
use Rattle.std.proofs.Common.{[], ◌∷◌, refl, subst}
use seplogic.Ra.Ura.{Ura}
use mir.Syntax.{Fn, Callee}
use base.Logic.{ent, via, fst∗, snd∗}
use base.Mask.{every}
use prog.Wp.{Calls, Loops, WpFn, Tables}
use prog.Model.{Model}
use prog.Routine.{over, ◌≼⁺◌}
use types.Logic.{Logic, sem}
use base.Mask.{just, less}
use base.Mask.{take as take_key}
use types.Kit.{‵, raw, ◌⊛◌, later, ◌$◌, ◌∵◌, !, qed, by, move, split, use1, use2, await, updating, now, frame, assume}
use contract.Monad.{fact_use}
use contract.Running.{Running, tables_of, bare_tables}
use contract.Beside.{Carries}
use contract.Named.{bare_unfolds}
use sound.WpLaws.{WpFn-mono}
use denote.RattleType.{owns}
use denote.Laws.{Ises, Are, owns_show, showss}
use denote.Signature.{Signature, types_at}
use denote.Triple.Clauses.{Ended, Clauses, closing}
use denote.Triple.Entry.{on_entry, alive}
use denote.Triple.Spec.{Meets, triple_of}
use denote.Triple.Table.{entered}
use denote.Triple.Handed.{holding, hands}
use denote.Triple.Walked.{Stays, AllGo, walk_of, walk_Meets}

module _ {M : Type 1} {𝓤 : Ura M} (𝓛 : Logic 𝓤) (T : Ended) (hs : Stays T.signature.params T.kept)
    (c : Clauses 𝓤 T) where
  open 𝓛 use {H, A}

  abbrev S : Signature
  S = T.signature

  abbrev pub with_token : Clauses 𝓤 T
  with_token = holding 𝓤 T (A.tok every) c

  pub proved_with_token : (𝓜 : Model 𝓤 H) (𝓡 : Running 𝓤 H 𝓜) → AllGo 𝓛 S.lifetimes S.params T.kept hs
      → (k : Callee) (e : Fn) → over 𝓡.env e ≼⁺ 𝓡.env k
      → ((C : Calls 𝓤 H) (Λ : Loops 𝓤 H) (y : (walk_of 𝓛 T hs with_token).Ghost)
      → Are (types_at S.params y.0.0) (Ises (types_at S.params y.0.0)) y.0.3 y.0.4
      → ent 𝓤 ((walk_of 𝓛 T hs with_token).pre y)
      (WpFn 𝓤 H C Λ e ((walk_of 𝓛 T hs with_token).args y) ((walk_of 𝓛 T hs with_token).post y)))
      → Meets 𝓛 S (𝓡.run (𝓡.env k)) (closing 𝓛 T c)
  unfolding tables_of
  proved_with_token 𝓜 𝓡 go k e is walk =
      let 𝓒 : Carries 𝓤 H 𝓜 (A.tok every) = subst (Carries 𝓤 H 𝓜) 𝓛.turn_is 𝓡.carries in
      let 𝓣 : Tables 𝓤 H = tables_of 𝓤 H 𝓒.inner (bare_tables 𝓤 H 𝓒.inner 𝓡.allowed 𝓡.how 𝓡.env) in
      hands 𝓛 T (A.tok every) c 𝓜 𝓒 𝓡 (𝓡.env k)
      (entered 𝓤 H (triple_of 𝓛 S (closing 𝓛 T with_token)) 𝓣.C 𝓣.Λ k e
      (bare_unfolds 𝓤 H 𝓒.inner 𝓡.allowed 𝓡.how 𝓡.env k e is)
      (walk_Meets 𝓛 T hs go with_token (WpFn 𝓤 H 𝓣.C 𝓣.Λ e) (WpFn-mono 𝓤 H 𝓛.laws 𝓣 e)
      (λ y. let Rs = types_at S.params y.0.0 in let a = y.0.3 in let vss = y.0.4 in
      fact_use 𝓤 (Are Rs (Ises Rs) a vss)
      (via 𝓤 (sem 𝓛 (owns Rs a vss))
      (via 𝓤 (on_entry 𝓛 S y.0.0 y.0.1 a vss)
      (fst∗ 𝓤 (on_entry 𝓛 S y.0.0 y.0.1 a vss) ((with_token y.0.0 a).requires y.1))
      (snd∗ 𝓤 (alive 𝓛 S y.0.0 y.0.1) (sem 𝓛 (owns Rs a vss)))) (owns_show 𝓛 Rs (Ises Rs) (showss 𝓛 Rs) a vss))
      (walk 𝓣.C 𝓣.Λ y))))

module _ {M : Type 1} {𝓤 : Ura M} (𝓛 : Logic 𝓤) where
  open 𝓛 use {H, A}

  -- the token of a thread opens its invariant; the thread gets the token back when it closes the invariant
  pub opens_rule : (k : base.Fml.Key) (P : base.Fml.Fml)
      → ent 𝓤 (base.Logic.sep 𝓤 (sem 𝓛 (types.Na.na_inv k P)) (A.tok every))
      (H.⇛ (base.Logic.sep 𝓤 (sem 𝓛 P) (base.Logic.wand 𝓤 (sem 𝓛 P) (H.⇛ (A.tok every)))))
  opens_rule k P = qed 𝓛 (‵ (types.Na.na_inv k P) ∷ ‵ (base.Fml.ftok every) ∷ []) ∵ updating ! $ move ! (1 ∷ []) $
      use1 𝓛 (‵ (base.Fml.ftok (just k)) ⊛ ‵ (base.Fml.ftok (less every k)))
      (𝓛.invs.tok_cut every (just k) (less every k) (take_key every k refl)) $ split ! $ move ! (2 ∷ 0 ∷ []) $
      use2 𝓛 (later (‵ P ⊛ raw (base.Logic.wand 𝓤 (sem 𝓛 P) (H.⇛ (A.tok (just k)))))) (types.Na.na_inv_acc 𝓛 k P) $
      await ! tt $ split ! $ now ! $ frame ! $
      assume ! (‵ P) $ updating ! $ move ! (0 ∷ 1 ∷ []) $
      use2 𝓛 (later (‵ (base.Fml.ftok (just k)))) (base.Logic.apply∗ 𝓤 (sem 𝓛 P) (H.⇛ (A.tok (just k)))) $
      await ! tt $ now ! $
      by ! (𝓛.invs.tok_glue every (just k) (less every k) (take_key every k refl))
