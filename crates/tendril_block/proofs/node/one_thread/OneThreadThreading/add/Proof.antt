-- `add` opens the invariant with the thread's token, and adds a reference if the count is still `seen`.
use Rattle.std.proofs.Common.{◌≡◌, ◌≢◌, ℕ, ◌+◌, ◌^◌, ◌<◌, Bool, true, false, List, [], ◌∷◌, ◌++◌, refl, sym, w64}
use mir.Val.{Val, vint, vptr}
use base.Logic.{SProp, sep, wand, apply∗, id⊢}
use base.Fml.{Fml, ftok, ftrue, flft}
use base.Mask.{every}
use prog.Wp.{WpFn}
use types.Logic.{sem}
use types.Kit.{‵, raw, ◌⊛◌, some, later, at_ret, ◌$◌, ◌∵◌, !, qed, by, move, keep, drop, split, split3, join, fsplit3}
use types.Kit.{fjoin, fpack, pick, learn, given, prop, regoal, rewrite, use2, use3, await, feq_i, flt_i}
use types.Run.{stop, bin, branches, skips, store, assigns_last, load, look, of_opd, first, blocks, exec, returns, enter}
use types.ByLocal.{alloc_all, pass_all, free_all, look_at, get, through, sets, sets_last, env}
use denote.Exit.{yes}
use denote.RattleType.{owns}
use denote.RawPtr.{Ptr, RawPtr, ptr_val, in_a_block}
use denote.Signature.{types_at, plain}
use denote.Builtin.{u64}
use lib.Dec.{eqb→eq}
use contract.Monad.{fact}
use Rattle.std_alloc.proofs.RcSteps.{is_not}
use denote.Steps.{nothing, heard}
use denote.Triple.Walked.{Stays, stay_dropped, walk_of, Goes-dropped}
use Rattle.core.proofs.alloc.Shapes.{after}
use Rattle.std.proofs.raw_atomic.Walks.{leaves}
use Rattle.atomic_table.specs.Seated.{word}
use Rattle.tendril_count.specs.Machine.{Block as Counted}
use Rattle.tendril_count.specs.Rule.{Only, role_coded, beside, live, state, join_gives}
use Rattle.tendril_count.proofs.Opening.{share_alive, found_live}
use Rattle.tendril_count.proofs.Adding.{joins_plainly}
use Rattle.tendril_block.specs.Owned.{limit, content, node_rule, part_of_mark, joins, joins_with, joined_to}
use Rattle.tendril_block.proofs.NodeWalks.{with_token, proved_with_token, opens_rule}
use Rattle.tendril_block.proofs.Carved.{low}
use Rattle.tendril_block.specs.contracts.node.one_thread.OneThreadThreading.add as f
use Rattle.tendril_block.specs.contracts.node.one_thread.OneThreadThreading.add.Key.{name as #self}
use Rattle.tendril_block.proofs.node.one_thread.OneThreadThreading.add.Statement.{statement}
use Rattle.tendril_block.proofs.node.one_thread.OneThreadThreading.add.Code as code
use Rattle.tendril_block.proofs.node.one_thread.OneThreadThreading.add.Code.{code}

abbrev stayed : Stays f.ended.signature.params f.ended.kept
stayed = (stay_dropped _ yes, (stay_dropped _ yes, (stay_dropped _ yes, tt)))

pub add_spec : {M : Type 1} → statement M
unfolding code
add_spec 𝓤 𝓛 𝓜 𝓡 wired =
    let H = 𝓛.H in let A = 𝓛.A in let c₀ = f.clauses 𝓛 𝓜.mem 𝓡.returns in let c = with_token 𝓛 f.ended stayed c₀ in
    let fn = code.function in let number = Goes-dropped 𝓛 0 (plain (λ _. u64)) yes (λ κs x w. refl) in
    proved_with_token 𝓛 f.ended stayed c₀ 𝓜 𝓡
    (Goes-dropped 𝓛 0 (plain (λ _. RawPtr)) yes (λ κs x w. refl), (number, (number, tt))) #self fn
    (wired.0.0 #self refl) (λ C Λ z are.
    let p = z.0.3.0 in let old = z.0.3.1.0 in let new = z.0.3.1.1.0 in let g = z.1 in let i = g.0.4 in
    let l = limit g.0.0 in let Sn : Fml = part_of_mark false g 0 0 in let Tk : Fml = flft (i.0 ∷ []) g.1 in
    let Post : Val → SProp 𝓤 = (walk_of 𝓛 f.ended stayed c).post z in
    qed 𝓛 ((‵ ftrue ⊛ ‵ (owns (types_at f.ended.signature.params z.0.0) z.0.3 z.0.4)) ∷ ‵ (ftok every) ∷ raw
    (fact 𝓤 (old < l)) ∷ raw (fact 𝓤 (new ≡ old + 1)) ∷ ‵ (joins false g p) ∷ []) ∵
    regoal ! (λ (us : List Val). prop (WpFn 𝓤 H C Λ fn us Post))
    (λ j. are.0 j ++ (are.1.0.0 j ++ (are.1.1.0.0 j ++ []))) refl $
    drop ! $ move ! (1 ∷ []) $ heard ! _ (λ below. move ! (1 ∷ []) $
    heard ! _ (λ next. move ! (1 ∷ []) $ in_a_block ! p (joins false g) (id⊢ 𝓤 _) (λ b w e.
    regoal ! (λ (q : Ptr). prop (WpFn 𝓤 H C Λ fn (ptr_val q ∷ vint w64 old ∷ vint w64 new ∷ []) Post)) e refl $
    let P : Fml = node_rule false g.0 b w in let Cn : Fml = content g.0.1 g.0.2 b g.0.3 in
    fsplit3 ! $ move ! (0 ∷ 3 ∷ []) $
    use2 𝓛 (later (‵ P ⊛ raw (wand 𝓤 (sem 𝓛 P) (H.⇛ (A.tok every))))) (opens_rule 𝓛 (b, w) P) $
    enter ! C Λ fn (vptr b w ∷ vint w64 old ∷ vint w64 new ∷ []) Post $
    alloc_all ! (λ ls. pass_all ! refl
    ((tt, tt), ((tt, record { fits = are.1.0.1 }), ((tt, record { fits = are.1.1.0.1 }), tt))) $
    let Ev = env fn.locals ls in await ! tt $ split ! $
    -- [what the invariant owns; the way to close it; the share of the mark; that of the token]
    move ! (0 ∷ 2 ∷ 3 ∷ []) $ use3 𝓛
    (some (λ (s : Counted). given (s.word < 2 ^ 64)
    (‵ (word b w s.word) ⊛ ‵ (beside role_coded.code (Only i.3) l Cn b w i.0 i.1 s) ⊛ ‵ Sn ⊛ ‵ Tk)))
    (found_live 𝓛 (Only i.3) l Cn b w i.0 i.1 (low g.0.0) (sep 𝓤 (sem 𝓛 Sn) (sem 𝓛 Tk))
    (share_alive 𝓛 (Only i.3) l Cn b w i.0 i.1 (low g.0.0) (sem 𝓛 Sn) g.1)) $
    pick ! (λ s. learn ! (λ small. split3 ! $ let n = s.word in
    -- [the word; the machine; the shares; the way to close the invariant]
    first ! $ blocks ! $ sets_last ! (of_opd ! (load ! (through ! refl (stop !)) (look ! 0 refl))) refl
    (tt, record { fits = small }) $
    exec ! C Λ Ev (after 1 fn.body) (at_ret Ev Post) $
    sets ! (of_opd ! (get ! refl)) refl (tt, record { fits = small }) $
    sets ! (bin ! (get ! refl) (get ! refl) tt) refl (tt, tt) $ first ! $ branches ! (get ! refl)
    (λ same. blocks ! $ assigns_last ! (of_opd ! (get ! refl)) (through ! refl (stop !))
    (store ! 0 refl (tt, record { fits = are.1.1.0.1 })) $ exec ! C Λ Ev (after 4 fn.body) (at_ret Ev Post) $
    sets ! (of_opd ! (get ! refl)) refl (tt, record { fits = small }) $
    rewrite ! 0 (λ (m : ℕ). ‵ (word b w m)) next refl $
    use3 𝓛 (later (‵ P ⊛ ‵ (joins_with false g b w old n)))
    (joins_plainly 𝓛 (Only i.3) l Cn b w i.0 i.1 (low g.0.0) i.2 i.3 refl g.2 g.1 old below s (eqb→eq n old same))
    $ await ! tt $ split ! $ move ! (0 ∷ 2 ∷ []) $
    use2 𝓛 (later (‵ (ftok every))) (apply∗ 𝓤 (sem 𝓛 P) (H.⇛ (A.tok every))) $ await ! tt $
    rewrite ! 1 (λ (q : Ptr). ‵ (joined_to false g old q n)) (sym e) refl $ join ! $
    flt_i ! n (2 ^ 64) small $ feq_i ! (List Val) (vint w64 n ∷ []) (vint w64 n ∷ []) refl $ fjoin ! $ nothing ! $
    nothing ! $ fjoin ! $ nothing ! $ fjoin ! $ nothing ! $ fjoin ! $ nothing ! $
    returns ! (look_at ! 0 refl) $ free_all ! refl $ keep ! (0 ∷ 1 ∷ 2 ∷ 3 ∷ []) $
    by ! (leaves 𝓛 f.ended stayed c z (vint w64 n) n _ (tt, (tt, (tt, tt)))))
    (λ other. skips ! $ exec ! C Λ Ev (after 4 fn.body) (at_ret Ev Post) $
    sets ! (of_opd ! (get ! refl)) refl (tt, record { fits = small }) $
    fjoin ! $ fpack ! Counted (live role_coded.code (Only i.3) l Cn b w i.0 i.1) s $
    fpack ! Bool (state role_coded.code (Only i.3) l Cn b w i.0 i.1) true $ move ! (0 ∷ 2 ∷ []) $
    use2 𝓛 (later (‵ (ftok every))) (apply∗ 𝓤 (sem 𝓛 P) (H.⇛ (A.tok every))) $ await ! tt $ move ! (1 ∷ []) $ split ! $
    -- [the share of the mark; that of the token; the thread's token]
    nothing ! $ fpack ! (n ≢ old) (λ _. ftrue) (is_not n old other) $
    fpack ! Bool (join_gives role_coded.code (Only i.3) l Cn b w i.0 i.1 old n) false $ move ! (2 ∷ 0 ∷ []) $
    fjoin ! $ move ! (1 ∷ 0 ∷ []) $ fjoin ! $
    rewrite ! 0 (λ (q : Ptr). ‵ (joined_to false g old q n)) (sym e) refl $ move ! (1 ∷ 0 ∷ []) $ join ! $
    flt_i ! n (2 ^ 64) small $ feq_i ! (List Val) (vint w64 n ∷ []) (vint w64 n ∷ []) refl $ fjoin ! $ nothing ! $
    nothing ! $ fjoin ! $ nothing ! $ fjoin ! $ nothing ! $ fjoin ! $ nothing ! $
    returns ! (look_at ! 0 refl) $ free_all ! refl $ keep ! (0 ∷ 1 ∷ 2 ∷ 3 ∷ []) $
    by ! (leaves 𝓛 f.ended stayed c z (vint w64 n) n _ (tt, (tt, (tt, tt))))))))))))
