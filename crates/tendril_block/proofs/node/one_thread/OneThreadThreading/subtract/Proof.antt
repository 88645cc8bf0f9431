-- `subtract` opens the invariant with the thread's token, and subtracts a reference from the count.
use Rattle.std.proofs.Common.{◌≡◌, ℕ, ◌+◌, ◌-◌, ◌%◌, ◌^◌, ◌<◌, arith, false, List, [], ◌∷◌, ◌++◌, refl, sym, w64}
use mir.Val.{Val, vint, vptr}
use base.Logic.{SProp, sep, wand, apply∗, id⊢}
use base.Fml.{Fml, ftok, ftrue}
use base.Mask.{every}
use prog.Wp.{WpFn}
use types.Logic.{sem}
use types.Kit.{‵, raw, ◌⊛◌, some, later, at_ret, ◌$◌, ◌∵◌, !, qed, by, move, keep, drop, split, split3, join, fsplit3}
use types.Kit.{fjoin, pick, learn, given, prop, regoal, rewrite, use1, use2, use3, await, feq_i, flt_i}
use types.Run.{stop, lit, bin, store, assigns_last, load, look, of_opd, first, blocks, exec, returns, enter}
use types.ByLocal.{alloc_all, pass_all, free_all, look_at, get, through, sets, sets_last, env}
use denote.Exit.{yes}
use denote.RattleType.{owns}
use denote.RawPtr.{Ptr, RawPtr, ptr_val, in_a_block}
use denote.Signature.{types_at, plain}
use denote.Steps.{nothing}
use denote.Triple.Walked.{Stays, stay_dropped, walk_of, Goes-dropped}
use Rattle.core.proofs.alloc.Shapes.{after}
use Rattle.std.proofs.raw_atomic.Walks.{leaves}
use Rattle.atomic_table.specs.Seated.{word}
use Rattle.tendril_count.specs.Machine.{Block as Counted}
use types.RcWeak.{part}
use Rattle.tendril_count.specs.Rule.{Only, role_coded, Reader, mark, beside}
use Rattle.tendril_count.proofs.Opening.{part_alive, found_live, some_word}
use Rattle.tendril_count.proofs.Subtracting.{subtracts_plainly}
use Rattle.tendril_count.proofs.Totals.{down}
use Rattle.tendril_block.specs.Owned.{limit, content, node_rule, holds, left, leaves_with}
use Rattle.tendril_block.proofs.NodeWalks.{with_token, proved_with_token, opens_rule}
use Rattle.tendril_block.proofs.Carved.{low}
use Rattle.tendril_block.specs.contracts.node.one_thread.OneThreadThreading.subtract as f
use Rattle.tendril_block.specs.contracts.node.one_thread.OneThreadThreading.subtract.Key.{name as #self}
use Rattle.tendril_block.proofs.node.one_thread.OneThreadThreading.subtract.Statement.{statement}
use Rattle.tendril_block.proofs.node.one_thread.OneThreadThreading.subtract.Code as code
use Rattle.tendril_block.proofs.node.one_thread.OneThreadThreading.subtract.Code.{code}

abbrev stayed : Stays f.ended.signature.params f.ended.kept
stayed = (stay_dropped _ yes, tt)

pub subtract_spec : {M : Type 1} → statement M
unfolding code
subtract_spec 𝓤 𝓛 𝓜 𝓡 wired =
    let H = 𝓛.H in let A = 𝓛.A in let c₀ = f.clauses 𝓛 𝓜.mem 𝓡.returns in let c = with_token 𝓛 f.ended stayed c₀ in
    let fn = code.function in
    proved_with_token 𝓛 f.ended stayed c₀ 𝓜 𝓡 (Goes-dropped 𝓛 0 (plain (λ _. RawPtr)) yes (λ κs x w. refl), tt) #self
    fn (wired.0.0 #self refl) (λ C Λ z are.
    let p = z.0.3.0 in let g = z.1 in let i = g.4 in let l = limit g.0 in
    let Mk : Fml = mark role_coded.code i.1 i.2 Reader in
    let Post : Val → SProp 𝓤 = (walk_of 𝓛 f.ended stayed c).post z in
    qed 𝓛 ((‵ ftrue ⊛ ‵ (owns (types_at f.ended.signature.params z.0.0) z.0.3 z.0.4)) ∷
    (‵ (ftok every) ⊛ ‵ (holds false g p)) ∷ []) ∵
    regoal ! (λ (us : List Val). prop (WpFn 𝓤 H C Λ fn us Post)) (λ j. are.0 j ++ []) refl $
    drop ! $ split ! $ move ! (1 ∷ []) $ in_a_block ! p (holds false g) (id⊢ 𝓤 _) (λ b w e.
    regoal ! (λ (q : Ptr). prop (WpFn 𝓤 H C Λ fn (ptr_val q ∷ []) Post)) e refl $
    let P : Fml = node_rule false g b w in let Cn : Fml = content g.1 g.2 b g.3 in
    fsplit3 ! $ move ! (0 ∷ 3 ∷ []) $
    use2 𝓛 (later (‵ P ⊛ raw (wand 𝓤 (sem 𝓛 P) (H.⇛ (A.tok every))))) (opens_rule 𝓛 (b, w) P) $
    enter ! C Λ fn (vptr b w ∷ []) Post $
    alloc_all ! (λ ls. pass_all ! refl ((tt, tt), tt) $ let Ev = env fn.locals ls in await ! tt $ split ! $
    -- [what the invariant owns; the way to close it; mark; part]
    move ! (0 ∷ 2 ∷ 3 ∷ []) $ use3 𝓛
    (some (λ (s : Counted). given (s.word < 2 ^ 64)
    (‵ (word b w s.word) ⊛ ‵ (beside role_coded.code (Only i.3) l Cn b w i.0 i.1 s) ⊛ ‵ Mk ⊛ ‵ (part 63 i.0))))
    (found_live 𝓛 (Only i.3) l Cn b w i.0 i.1 (low g.0) (sep 𝓤 (sem 𝓛 Mk) (sem 𝓛 (part 63 i.0)))
    (part_alive 𝓛 (Only i.3) l Cn b w i.0 i.1 (low g.0) (sem 𝓛 Mk))) $
    pick ! (λ s. learn ! (λ small. split3 ! $ let n = s.word in
    -- [the word; the machine; mark and part; the way to close the invariant]
    first ! $ blocks ! $ sets_last ! (of_opd ! (load ! (through ! refl (stop !)) (look ! 0 refl))) refl
    (tt, record { fits = small }) $
    exec ! C Λ Ev (after 1 fn.body) (at_ret Ev Post) $
    sets ! (of_opd ! (get ! refl)) refl (tt, record { fits = small }) $
    move ! (1 ∷ []) $ use1 𝓛 (given (0 < n) (‵ (beside role_coded.code (Only i.3) l Cn b w i.0 i.1 s)))
    (some_word 𝓛 (Only i.3) l Cn b w i.0 i.1 (low g.0) s) $ learn ! (λ some_n. move ! (1 ∷ 0 ∷ []) $
    let less : n - 1 < 2 ^ 64 = omega (arith, small) in let is : n - 1 ≡ (n + (2 ^ 64 - 1)) % 2 ^ 64 =
    omega (arith, down n some_n small) in
    first ! $ blocks ! $ sets ! (bin ! (get ! refl) (lit ! tt) some_n) refl (tt, record { fits = less }) $
    assigns_last ! (of_opd ! (get ! refl)) (through ! refl (stop !)) (store ! 0 refl (tt, record { fits = less })) $
    exec ! C Λ Ev (after 3 fn.body) (at_ret Ev Post) $
    sets ! (of_opd ! (get ! refl)) refl (tt, record { fits = small }) $
    rewrite ! 0 (λ (m : ℕ). ‵ (word b w m)) is refl $
    use3 𝓛 (later (‵ P ⊛ ‵ (leaves_with false g b w n)))
    (subtracts_plainly 𝓛 (Only i.3) l Cn b w i.0 i.1 (low g.0) i.2 i.3 refl s) $ await ! tt $ split ! $
    move ! (0 ∷ 2 ∷ []) $
    use2 𝓛 (later (‵ (ftok every))) (apply∗ 𝓤 (sem 𝓛 P) (H.⇛ (A.tok every))) $ await ! tt $
    rewrite ! 1 (λ (q : Ptr). ‵ (left false g q n)) (sym e) refl $ join ! $
    flt_i ! n (2 ^ 64) small $ feq_i ! (List Val) (vint w64 n ∷ []) (vint w64 n ∷ []) refl $ fjoin ! $ nothing ! $
    nothing ! $ fjoin ! $ nothing ! $
    returns ! (look_at ! 0 refl) $ free_all ! refl $ keep ! (0 ∷ 1 ∷ 2 ∷ 3 ∷ []) $
    by ! (leaves 𝓛 f.ended stayed c z (vint w64 n) n _ (tt, tt))))))))
