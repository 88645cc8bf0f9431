-- `peek` opens the invariant with the thread's token, and loads the count.
use Rattle.std.proofs.Common.{◌^◌, ◌<◌, Bool, true, false, List, [], ◌∷◌, ◌++◌, refl, w64}
use mir.Val.{Val, vint, vptr}
use base.Logic.{SProp, wand, apply∗, id⊢}
use base.Fml.{Fml, ftok, ftrue, flft}
use base.Mask.{every}
use prog.Wp.{WpFn}
use types.Logic.{sem}
use types.Kit.{‵, raw, ◌⊛◌, some, later, at_ret, ◌$◌, ◌∵◌, !, qed, by, move, keep, drop, split, split3, join, fsplit}
use types.Kit.{fjoin, fpack, pick, learn, given, prop, regoal, use2, await, feq_i, flt_i}
use types.Run.{stop, load, look, of_opd, first, blocks, exec, returns, enter}
use types.ByLocal.{alloc_all, pass_all, free_all, look_at, get, through, sets, sets_last, env}
use denote.Exit.{yes}
use denote.RattleType.{owns}
use denote.RawPtr.{Ptr, RawPtr, ptr_val, in_a_block}
use denote.Signature.{types_at, plain}
use denote.Steps.{nothing}
use denote.Triple.Walked.{Stays, stay_dropped, walk_of, Goes-dropped}
use Rattle.core.proofs.alloc.Shapes.{after}
use Rattle.std.proofs.raw_atomic.Walks.{leaves}
use Rattle.atomic_table.specs.Seated.{word}
use Rattle.tendril_count.specs.Machine.{Block as Counted}
use Rattle.tendril_count.specs.Rule.{Only, role_coded, beside, live, state}
use Rattle.tendril_count.proofs.Opening.{token_alive, found_live}
use Rattle.tendril_block.specs.Owned.{limit, content, node_rule, peeks}
use Rattle.tendril_block.proofs.NodeWalks.{with_token, proved_with_token, opens_rule}
use Rattle.tendril_block.proofs.Carved.{low}
use Rattle.tendril_block.specs.contracts.node.one_thread.OneThreadThreading.peek as f
use Rattle.tendril_block.specs.contracts.node.one_thread.OneThreadThreading.peek.Key.{name as #self}
use Rattle.tendril_block.proofs.node.one_thread.OneThreadThreading.peek.Statement.{statement}
use Rattle.tendril_block.proofs.node.one_thread.OneThreadThreading.peek.Code as code
use Rattle.tendril_block.proofs.node.one_thread.OneThreadThreading.peek.Code.{code}

abbrev stayed : Stays f.ended.signature.params f.ended.kept
stayed = (stay_dropped _ yes, tt)

pub peek_spec : {M : Type 1} → statement M
unfolding code
peek_spec 𝓤 𝓛 𝓜 𝓡 wired =
    let H = 𝓛.H in let A = 𝓛.A in let c₀ = f.clauses 𝓛 𝓜.mem 𝓡.returns in let c = with_token 𝓛 f.ended stayed c₀ in
    let fn = code.function in
    proved_with_token 𝓛 f.ended stayed c₀ 𝓜 𝓡 (Goes-dropped 𝓛 0 (plain (λ _. RawPtr)) yes (λ κs x w. refl), tt) #self
    fn (wired.0.0 #self refl) (λ C Λ z are.
    let p = z.0.3.0 in let g = z.1 in let i = g.0.4 in let l = limit g.0.0 in let Tk : Fml = flft (i.0 ∷ []) g.1 in
    let Post : Val → SProp 𝓤 = (walk_of 𝓛 f.ended stayed c).post z in
    qed 𝓛 ((‵ ftrue ⊛ ‵ (owns (types_at f.ended.signature.params z.0.0) z.0.3 z.0.4)) ∷
    (‵ (ftok every) ⊛ ‵ (peeks false g p)) ∷ []) ∵
    regoal ! (λ (us : List Val). prop (WpFn 𝓤 H C Λ fn us Post)) (λ j. are.0 j ++ []) refl $
    drop ! $ split ! $ move ! (1 ∷ []) $ in_a_block ! p (peeks false g) (id⊢ 𝓤 _) (λ b w e.
    regoal ! (λ (q : Ptr). prop (WpFn 𝓤 H C Λ fn (ptr_val q ∷ []) Post)) e refl $
    let P : Fml = node_rule false g.0 b w in let Cn : Fml = content g.0.1 g.0.2 b g.0.3 in
    fsplit ! $ move ! (0 ∷ 2 ∷ []) $
    use2 𝓛 (later (‵ P ⊛ raw (wand 𝓤 (sem 𝓛 P) (H.⇛ (A.tok every))))) (opens_rule 𝓛 (b, w) P) $
    enter ! C Λ fn (vptr b w ∷ []) Post $
    alloc_all ! (λ ls. pass_all ! refl ((tt, tt), tt) $ let Ev = env fn.locals ls in await ! tt $ split ! $
    -- [what the invariant owns; the way to close it; the share]
    move ! (0 ∷ 2 ∷ []) $ use2 𝓛 (some
    (λ (t : Counted). given (t.word < 2 ^ 64)
    (‵ (word b w t.word) ⊛ ‵ (beside role_coded.code (Only i.3) l Cn b w i.0 i.1 t) ⊛ ‵ Tk)))
    (found_live 𝓛 (Only i.3) l Cn b w i.0 i.1 (low g.0.0) (sem 𝓛 Tk)
    (token_alive 𝓛 (Only i.3) l Cn b w i.0 i.1 (low g.0.0) g.1)) $
    pick ! (λ t. learn ! (λ small. split3 ! $ let n = t.word in
    first ! $ blocks ! $ sets_last ! (of_opd ! (load ! (through ! refl (stop !)) (look ! 0 refl))) refl
    (tt, record { fits = small }) $
    exec ! C Λ Ev (after 1 fn.body) (at_ret Ev Post) $
    sets ! (of_opd ! (get ! refl)) refl (tt, record { fits = small }) $
    fjoin ! $ fpack ! Counted (live role_coded.code (Only i.3) l Cn b w i.0 i.1) t $
    fpack ! Bool (state role_coded.code (Only i.3) l Cn b w i.0 i.1) true $ move ! (0 ∷ 2 ∷ []) $
    use2 𝓛 (later (‵ (ftok every))) (apply∗ 𝓤 (sem 𝓛 P) (H.⇛ (A.tok every))) $ await ! tt $ join ! $
    flt_i ! n (2 ^ 64) small $ feq_i ! (List Val) (vint w64 n ∷ []) (vint w64 n ∷ []) refl $ fjoin ! $ nothing ! $
    nothing ! $ fjoin ! $ nothing ! $
    returns ! (look_at ! 0 refl) $ free_all ! refl $ keep ! (0 ∷ 1 ∷ 2 ∷ 3 ∷ []) $
    by ! (leaves 𝓛 f.ended stayed c z (vint w64 n) n _ (tt, tt)))))))
