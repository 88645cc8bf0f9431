-- `count` loads the node's count through a `&`, with a share of the lifetime's token.
use Rattle.std.proofs.Common.{ℕ, ◌+◌, ◌^◌, Bool, List, [], ◌∷◌, refl, sym, ap, ◌∙◌, w64}
use mir.Syntax.{Dict, Fn, ty_ptr}
use mir.MapTy.{inst_fn}
use contract.BorrowLft.{◌⊑◌}
use denote.Param.{param}
use mir.Val.{Val, vint, vptr}
use base.Logic.{SProp, emp, id⊢}
use base.Fml.{ftrue, flft, fhide}
use types.Kit.{‵, raw, ◌⊛◌, some, later, at_ret, ◌$◌, ◌∵◌, !, qed, by, move, keep, drop, split, join, fsplit, fsplit3}
use types.Kit.{fjoin, fpick, pick, use0, use1, await, rewrite, feq_i, feq_l, flt_i, flt_l}
use types.Run.{stop, fld, load, addr, look, of_opd, no_more, and_then, first, blocks, exec, returns, enter}
use types.ByLocal.{alloc_all, pass_all, free_all, look_at, get, through, sets, lands_last, env, is}
use types.Tokens.{shr_bor-open, obor_close}
use types.Within.{tokens_halve}
use contract.Running.{tables}
use denote.Exit.{yes}
use denote.RattleType.{RattleType, owns}
use denote.Builtin.{RefOf, u64}
use denote.Copied.{plain_Copied}
use denote.Memory.{cell_at, hidden_shr}
use denote.Opens.{unhide, hide}
use denote.RawPtr.{Ptr, RawPtr, block_ptr, ptr_val, block_of, count_of, at_block, coded_ptr, ptr_own, rawptr_pure}
use denote.Ref.{shr_vals, shr_Tells}
use mir.Syntax.{named}
use denote.Signature.{types_at, plain}
use denote.Steps.{nothing, only, heard, looks, shuts}
use denote.Struct.Laws.{RawPtr-laws}
use denote.Struct.Lending.{lent_out}
use denote.Struct.Owning.{shape, to}
use denote.Struct.Struct.{Struct}
use denote.Triple.Call.{calls_at_last}
use denote.Triple.Clauses.{Lasts, lasts}
use denote.Triple.Spec.{triple_of}
use denote.Triple.Walked.{Stays, stay_dropped, walk_of, Goes-dropped}
use Rattle.core.proofs.alloc.Shapes.{after}
use Rattle.core.proofs.atomic.Steps.{typed, fm}
use Rattle.std.specs.contracts.alloc.Global as heap
use Rattle.std.proofs.raw_atomic.Walks.{proved, leaves}
use contract.Monad.{fact, fact_i}
use Rattle.core.specs.contracts.marker.PhantomData as marker
use Rattle.tendril_block.specs.declared.node.threading.Threading.{Ghosts}
use Rattle.tendril_block.proofs.Handles.{Self, args}
use Rattle.tendril_block.specs.Owned.{block_shares}
use Rattle.tendril_block.specs.contracts.node.handle.Handle as block
use Rattle.tendril_block.specs.contracts.node.threading.Threading.peek as callee
use Rattle.tendril_block.specs.contracts.node.handle.Handle.count.{ended, clauses}
use Rattle.tendril_block.specs.contracts.node.handle.Handle.count.Key.{name as #self}
use Rattle.tendril_block.proofs.node.handle.Handle.count.Statement.{statement}
use Rattle.tendril_block.proofs.node.handle.Handle.count.Code as code

abbrev Words : (K : RattleType) → Ghosts K.Denot → RattleType
Words K k = Struct (shape (block.the_type K k))

abbrev stayed : (K : RattleType) (k : Ghosts K.Denot) (d : Dict)
    → Stays (ended K k d).signature.params (ended K k d).kept
stayed K k d = (stay_dropped (RefOf (0 ∷ []) tt (plain (λ _. Self (param 0 K) k)) (λ _. tt)) yes, tt)

pub count_spec : {M : Type 1} → statement M
count_spec 𝓤 𝓛 𝓜 𝓡 wired K law k d met =
    let H = 𝓛.H in let 𝓣 = tables 𝓤 H 𝓜 𝓡 𝓡.env in let En = ended K k d in let stays = stayed K k d in
    let c = clauses K k d 𝓛 𝓜.mem 𝓡.returns in let fn : Fn = inst_fn (args K d) code.function in
    proved 𝓛 En stays c 𝓜 𝓡 (
      Goes-dropped 𝓛 2 (RefOf (0 ∷ []) tt (plain (λ _. Self (param 0 K) k)) (λ _. tt)) yes
          (λ κs x f. refl),
      tt,
    ) (#self (args K d)) fn (code.unfolded 𝓤 H 𝓜 𝓡 wired (K, tt) d)
    (λ κs. (shr_vals, tt)) (λ κs. (shr_Tells (named 0) κs.0 (Self (param 0 K) k), tt)) (λ κs qs bounds a₀ g₀ are.
    let κ = κs.0 in let q = qs.0 in let b = a₀.0.ref_ptr.0 in let o = a₀.0.ref_ptr.1 in
    let shared : Bool = k.any_thread in let me = a₀.0.now in let p = me.node in let pb = block_of p in
    let po = count_of p in let x = me.inner in let l₀ = me.limit in
    let z : (walk_of 𝓛 En stays c).Ghost = ((κs, qs, bounds, a₀, (vptr b o ∷ [], tt)), g₀) in
    let Post : Val → SProp 𝓤 = (walk_of 𝓛 En stays c).post z in
    let step = triple_of 𝓛 (callee.signature K) (callee.spec K k d 𝓛 𝓜.mem 𝓡.returns) in
    qed 𝓛 (((‵ (flft κ q) ⊛ ‵ (flft κs.1.0 qs.1.0) ⊛ ‵ ftrue) ⊛ ‵
    (owns (types_at En.signature.params κs) a₀ (vptr b o ∷ [], tt))) ∷ (raw (fact 𝓤 (κs.1.0 ⊑ K.lives)) ⊛ ‵ ftrue)
    ∷ []) ∵
    move ! (1 ∷ []) $ split ! $ heard ! _ (λ le. drop ! $
    split ! $ split ! $ move ! (2 ∷ []) $ fsplit ! $ fsplit ! $ keep ! (1 ∷ 3 ∷ 4 ∷ []) $
    use1 𝓛 (‵ (hidden_shr (Words K k) κ (to (block.the_type K k) me) b o) ⊛ ‵
    (fhide (block_shares shared l₀ p me.alloc x κ)))
    (lent_out 𝓛 (block.struct K k) (block.the_codes K.Denot K.coded (heap.the_row).coded (marker.the_row K).coded)
    (block.the_heap K k) (block.the_lent K k) κ me b o) $
    split ! $ move ! (1 ∷ []) $ unhide ! $ fsplit ! $
    fpick ! (λ inb. drop ! $ fpick ! (λ i. fsplit3 ! $ move ! (2 ∷ []) $ fsplit ! $
    -- [invariant; shown; tokens; marks; fields; the token; nothing]
    move ! (4 ∷ []) $ unhide ! $ fsplit ! $ fsplit ! $ hide ! $
    use1 𝓛 (‵ (hidden_shr RawPtr κ p b (o + 0))) (id⊢ 𝓤 _) $ keep ! (0 ∷ 7 ∷ 3 ∷ 5 ∷ 8 ∷ []) $
    -- [the pointer; the token; invariant; tokens; nothing]
    enter ! 𝓣.C 𝓣.Λ fn (vptr b o ∷ []) Post $
    alloc_all ! (λ l. pass_all ! refl ((tt, tt), tt) $ let Ev = env fn.locals l in
    looks ! tt RawPtr (plain_Copied 𝓛 Ptr coded_ptr (ty_ptr ∷ []) ptr_own rawptr_pure ptr_val RawPtr-laws.tells).opens
    {κ = κ} {q = q} p b (o + 0) (λ q' vs'. move ! (1 ∷ []) $ feq_l ! (λ e.
    rewrite ! 0 (λ (us : List Val). ‵ (cell_at q' RawPtr.mir us b (o + 0)))
    (e ∙ ap (λ (r : Ptr). ptr_val r ∷ []) (at_block p inb)) refl $
    sets ! (of_opd ! (load ! (through ! refl (fld ! refl (stop !))) (look ! 0 refl))) refl (tt, tt) $
    feq_i ! (List Val) (vptr pb po ∷ []) (ptr_val p ∷ []) (ap (λ (r : Ptr). ptr_val r ∷ []) (sym (at_block p inb))) $
    move ! (1 ∷ 0 ∷ []) $ shuts ! tt RawPtr q' p (vptr pb po ∷ []) b (o + 0) $
    -- [the token; the pointer; invariant; tokens; nothing]
    move ! (3 ∷ 0 ∷ []) $ shr_bor-open ! tt (tokens_halve 𝓛 (i.0 ∷ [])) (λ s.
    -- [the open token; its share; the pointer; invariant; nothing]
    let w : Ptr = block_ptr pb (po + 0) in
    let y : step.Ghost = ((κs.1, qs.1, tt, (w, tt), (ptr_val w ∷ [], tt)), ((l₀, me.alloc, x, po, i), s)) in
    move ! (3 ∷ 1 ∷ []) $ fjoin ! $
    use0 𝓛 (raw (fact 𝓤 (κs.1.0 ⊑ K.lives))) (fact_i 𝓤 (κs.1.0 ⊑ K.lives) (emp 𝓤) le) $ join ! $
    nothing ! $ feq_i ! (List Val) (ptr_val w ∷ []) (ptr_val w ∷ []) refl $ fjoin ! $ move ! (4 ∷ []) $ join ! $
    join ! $ use1 𝓛 (raw (step.pre y)) (id⊢ 𝓤 (step.pre y)) $
    first ! $ blocks ! $ sets ! (addr ! (through ! refl (fld ! refl (stop !)))) refl (tt, tt) $
    calls_at_last ! (fm 𝓛 𝓜 𝓡) step met.peek y (and_then ! (get ! refl) (no_more !)) (λ u.
    use1 𝓛 (later (some (λ (n : ℕ). ((‵ (flft κs.1.0 qs.1.0) ⊛ ‵ ftrue) ⊛ ‵ (u64.own_val n (u ∷ []))) ⊛ some
    (λ (ls : Lasts (callee.ended K k d) κs.1 y.0.3). ‵ (lasts (callee.ended K k d) κs.1 y.0.3 ls) ⊛ ‵
    (flft (i.0 ∷ []) s))))) (id⊢ 𝓤 (step.post y u)) $
    await ! tt $ pick ! (λ n. split ! $ split ! $ move ! (1 ∷ []) $ fsplit ! $
    feq_l ! (λ eu. flt_l ! (λ small. move ! (1 ∷ []) $ pick ! (λ _. split ! $ drop ! $ move ! (0 ∷ 2 ∷ 3 ∷ 1 ∷ []) $
    lands_last ! refl (typed n u (sym (ap only eu), small)) $ exec ! 𝓣.C 𝓣.Λ Ev (after 2 fn.body) (at_ret Ev Post) $
    sets ! (is ! (of_opd ! (get ! refl)) (ap only eu)) refl (tt, record { fits = small }) $
    -- [the share; the open token; the pointer; nothing]
    move ! (1 ∷ 0 ∷ []) $ obor_close ! tt $ drop ! $ move ! (0 ∷ 2 ∷ []) $ join ! $
    flt_i ! n (2 ^ 64) small $ feq_i ! (List Val) (vint w64 n ∷ []) (vint w64 n ∷ []) refl $ fjoin ! $ nothing ! $
    nothing ! $ nothing ! $ fjoin ! $
    returns ! (look_at ! 0 refl) $ free_all ! refl $ keep ! (3 ∷ 0 ∷ 2 ∷ 1 ∷ []) $
    by ! (leaves 𝓛 En stays c z (vint w64 n) n (tt, tt) (tt, tt)))))))))))))))
