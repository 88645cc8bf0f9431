-- `body` borrows the body, which all references share.
use Rattle.std.proofs.Common.{◌≡◌, ℕ, ◌+◌, Bool, List, [], ◌∷◌, refl, sym, ap, ◌∙◌}
use mir.Syntax.{Dict, Fn, ty_ptr, named}
use mir.MapTy.{inst_fn}
use contract.BorrowLft.{◌⊑◌}
use denote.Param.{param}
use Rattle.core.specs.contracts.marker.PhantomData as marker
use Rattle.tendril_block.specs.declared.node.threading.Threading.{Ghosts}
use Rattle.tendril_block.proofs.Handles.{Self, args}
use mir.Val.{Val, vptr}
use base.Logic.{SProp, emp, id⊢}
use base.Fml.{ftrue, flft, fhide}
use types.Kit.{‵, raw, ◌⊛◌, at_ret, ◌$◌, ◌∵◌, !, qed, by, move, keep, drop, split, join, fsplit, fjoin, fpick, use0}
use types.Kit.{use1, rewrite, feq_i, feq_l}
use types.Run.{stop, fld, hop, addr, look, of_opd, first, blocks, exec, returns, enter}
use types.ByLocal.{alloc_all, pass_all, free_all, look_at, get, through, sets, sets_last, env, is}
use contract.Monad.{fact, fact_i}
use contract.Running.{tables}
use denote.Exit.{yes}
use denote.RattleType.{RattleType, owns}
use denote.Builtin.{RefOf}
use denote.Copied.{plain_Copied}
use denote.Memory.{cell_at, hidden_shr}
use denote.Opens.{unhide, hide}
use denote.RawPtr.{Ptr, RawPtr, ptr_val, block_of, count_of, at_block, coded_ptr, ptr_own, rawptr_pure}
use denote.Ref.{shr_vals, shr_Tells}
use denote.Signature.{types_at, type_at, plain}
use denote.Steps.{nothing, looks, shuts}
use denote.Struct.Laws.{RawPtr-laws}
use denote.Struct.Lending.{lent_out}
use denote.Struct.Owning.{shape, to}
use denote.Struct.Struct.{Struct}
use denote.Triple.Entry.{alive}
use denote.Triple.Walked.{Stays, stay_dropped, walk_of, Goes-dropped}
use Rattle.core.proofs.alloc.Shapes.{after}
use Rattle.std.proofs.raw_atomic.Walks.{proved, leaves}
use Rattle.std.specs.contracts.alloc.Global as heap
use Rattle.tendril_block.specs.Owned.{rule_kept, rule, body_at, shown, block_shares}
use Rattle.tendril_block.proofs.Lent.{sees}
use Rattle.tendril_block.proofs.Carved.{shown_laws, kept_twice}
use Rattle.tendril_block.specs.contracts.node.handle.Handle as block
use Rattle.tendril_block.specs.contracts.node.handle.Handle.body.{ended, clauses}
use Rattle.tendril_block.specs.contracts.node.handle.Handle.body.Key.{name as #self}
use Rattle.tendril_block.proofs.node.handle.Handle.body.Statement.{statement}
use Rattle.tendril_block.proofs.node.handle.Handle.body.Code as code

abbrev stayed : (K : RattleType) (k : Ghosts K.Denot) (d : Dict)
    → Stays (ended K k d).signature.params (ended K k d).kept
stayed K k d = (stay_dropped (RefOf (0 ∷ []) tt (plain (λ _. Self (param 0 K) k)) (λ _. tt)) yes, tt)

abbrev Words : (K : RattleType) → Ghosts K.Denot → RattleType
Words K k = Struct (shape (block.the_type K k))

eight : 8 ≡ body_at
eight = refl

pub body_spec : {M : Type 1} → statement M
body_spec 𝓤 𝓛 𝓜 𝓡 wired K law k d met =
    let H = 𝓛.H in let 𝓣 = tables 𝓤 H 𝓜 𝓡 𝓡.env in let En = ended K k d in let stays = stayed K k d in
    let c = clauses K k d 𝓛 𝓜.mem 𝓡.returns in let fn : Fn = inst_fn (args K d) code.function in
    proved 𝓛 En stays c 𝓜 𝓡 (
      Goes-dropped 𝓛 2 (RefOf (0 ∷ []) tt (plain (λ _. Self (param 0 K) k)) (λ _. tt)) yes
          (λ κs x f. refl),
      tt,
    ) (#self (args K d)) fn (code.unfolded 𝓤 H 𝓜 𝓡 wired (K, tt) d)
    (λ κs. (shr_vals, tt)) (λ κs. (shr_Tells (named 0) κs.0 (Self (param 0 K) k), tt)) (λ κs qs bounds a g are.
    let κ = κs.0 in let q = qs.0 in let b = a.0.ref_ptr.0 in let o = a.0.ref_ptr.1 in let y : Bool = k.any_thread in
    let me = a.0.now in let p = me.node in let pb = block_of p in let po = count_of p in
    let there = po + body_at in let x = me.inner in
    let z : (walk_of 𝓛 En stays c).Ghost = ((κs, qs, bounds, a, (vptr b o ∷ [], tt)), g) in
    let Post : Val → SProp 𝓤 = (walk_of 𝓛 En stays c).post z in
    qed 𝓛 (((‵ (flft κ q) ⊛ ‵ (flft κs.1.0 qs.1.0) ⊛ ‵ ftrue) ⊛ ‵
    (owns (types_at En.signature.params κs) a (vptr b o ∷ [], tt))) ∷ (raw (fact 𝓤 (κs.1.0 ⊑ K.lives)) ⊛ ‵ ftrue)
    ∷ []) ∵
    split ! $ split ! $ move ! (2 ∷ []) $ fsplit ! $ fsplit ! $ keep ! (1 ∷ 3 ∷ 4 ∷ []) $
    use1 𝓛 (‵ (hidden_shr (Words K k) κ (to (block.the_type K k) me) b o) ⊛ ‵
    (fhide (block_shares y me.limit p me.alloc x κ)))
    (lent_out 𝓛 (block.struct K k) (block.the_codes K.Denot K.coded (heap.the_row).coded (marker.the_row K).coded)
    (block.the_heap K k) (block.the_lent K k) κ me b o) $
    split ! $ move ! (1 ∷ []) $ unhide ! $ fsplit ! $ fpick ! (λ inb. drop ! $
    use1 𝓛 (‵ (shown me.alloc x pb po κ))
    (sees (λ i. rule_kept y pb (po + 0) (rule y me.limit me.alloc x pb po i))
    (λ i W 𝓤' 𝓛'. kept_twice 𝓛' y pb (po + 0) (rule y me.limit me.alloc x pb po i)) (shown me.alloc x pb po)
    (shown_laws me.alloc x pb po) 𝓛 κ) $ fsplit ! $ drop ! $ hide ! $
    move ! (1 ∷ []) $ unhide ! $ fsplit ! $ fsplit ! $ hide ! $ move ! (0 ∷ 3 ∷ 4 ∷ []) $
    use1 𝓛 (‵ (hidden_shr RawPtr κ p b (o + 0))) (id⊢ 𝓤 _) $
    -- [the pointer; the body; the token]
    enter ! 𝓣.C 𝓣.Λ fn (vptr b o ∷ []) Post $
    alloc_all ! (λ l. pass_all ! refl ((tt, tt), tt) $ let Ev = env fn.locals l in
    move ! (0 ∷ 2 ∷ []) $ looks ! tt RawPtr
    (plain_Copied 𝓛 Ptr coded_ptr (ty_ptr ∷ []) ptr_own rawptr_pure ptr_val RawPtr-laws.tells).opens {κ = κ} {q =
    q} p b (o + 0) (λ q' vs. move ! (1 ∷ []) $ feq_l ! (λ e.
    rewrite ! 0 (λ (us : List Val). ‵ (cell_at q' RawPtr.mir us b (o + 0)))
    (e ∙ ap (λ (r : Ptr). ptr_val r ∷ []) (at_block p inb)) refl $ first ! $ blocks ! $
    sets_last ! (is ! (addr ! (through ! refl (fld ! refl (hop ! (look ! 0 refl) (fld ! refl (stop !))))))
    (ap (λ (n : ℕ). vptr pb (po + n)) eight)) refl (tt, tt) $
    exec ! 𝓣.C 𝓣.Λ Ev (after 1 fn.body) (at_ret Ev Post) $ sets ! (of_opd ! (get ! refl)) refl (tt, tt) $
    feq_i ! (List Val) (vptr pb po ∷ []) (ptr_val p ∷ []) (ap (λ (r : Ptr). ptr_val r ∷ []) (sym (at_block p inb))) $
    move ! (1 ∷ 0 ∷ []) $ shuts ! tt RawPtr q' p (vptr pb po ∷ []) b (o + 0) $
    -- [the token; the pointer; the body]
    move ! (2 ∷ []) $ feq_i ! (List Val) (vptr pb there ∷ []) (vptr pb there ∷ []) refl $ fjoin ! $
    use1 𝓛 (‵ ((type_at En.signature.result κs).own_val (record { ref_ptr = (pb, there); now = x })
    (vptr pb there ∷ []))) (id⊢ 𝓤 _) $
    use0 𝓛 (raw (fact 𝓤 (x ≡ x))) (fact_i 𝓤 (x ≡ x) (emp 𝓤) refl) $ nothing ! $ nothing ! $ fjoin ! $
    move ! (3 ∷ 7 ∷ []) $ join ! $
    returns ! (look_at ! 0 refl) $ free_all ! refl $ keep ! (0 ∷ 1 ∷ 3 ∷ 2 ∷ []) $
    use1 𝓛 (raw (alive 𝓛 En.signature κs qs)) (id⊢ 𝓤 _) $
    by ! (leaves 𝓛 En stays c z (vptr pb there) (record { ref_ptr = (pb, there); now = x }) (tt, tt) (tt, tt)))))))
