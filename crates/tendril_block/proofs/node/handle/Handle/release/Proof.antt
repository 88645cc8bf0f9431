-- `release` subtracts a reference from the count. If it was the last one, the node's parts are joined again.
use Rattle.std.proofs.Common.{◌≡◌, ℕ, ◌+◌, Bool, List, [], ◌∷◌, ◌++◌, refl, sym, ap, subst, lit<}
use lib.Dec.{eqb→eq}
use mir.Syntax.{Dict, Fn}
use mir.MapTy.{inst_fn}
use contract.BorrowLft.{◌⊑◌}
use mir.Val.{Val, vptr, vcons, vnil}
use base.Logic.{SProp, ent, emp, id⊢}
use base.Fml.{ftrue, fex, flft}
use prog.Wp.{WpFn}
use types.Kit.{‵, raw, ◌⊛◌, some, later, at_ret, ◌$◌, ◌∵◌, !, qed, by, move, keep, drop, split, split3, join, fsplit}
use types.Kit.{fsplit3, fjoin, fjoin3, fpick, fpack, pick, suffices, use0, use1, use3, await, feq_i, feq_l, flt_l}
use types.Run.{stop, fld, addr, lit, of_opd, bin, no_more, and_then, first, blocks, branches, exec, returns, enter}
use types.ByLocal.{alloc_all, pass_all, free_all, look_at, get, get_in, through, sets, sets_last, lands_last, env, is}
use types.Part.{agg, sub, whole}
use types.Match.{live}
use contract.Monad.{fact, fact_i}
use contract.Running.{tables}
use denote.Exit.{no}
use Rattle.core.proofs.alloc.Calls.{Goes-blank}
use denote.RattleType.{RattleType, owns}
use denote.Signature.{types_at, type_at, plain}
use denote.Builtin.{u64}
use denote.Memory.{part_at}
use denote.Param.{layout, param}
use denote.RawPtr.{Ptr, block_ptr, ptr_val}
use denote.Steps.{nothing, only, heard}
use denote.Triple.Clauses.{Lasts, lasts}
use denote.Triple.Spec.{triple_of}
use denote.Triple.Call.{calls_at_last}
use denote.Triple.Walked.{Stays, stay_dropped, walk_of}
use base.Fraction.{full_share}
use Rattle.core.specs.declared.option.Option.TheVariants.{None, Some}
use Rattle.core.proofs.alloc.Shapes.{after}
use Rattle.core.proofs.atomic.Steps.{typed, fm}
use Rattle.core.proofs.cell.Inside.{Good}
use Rattle.core.proofs.option.Made.{Some-of, none_of}
use Rattle.std.proofs.alloc.Global.TheLaws as heap_laws
use Rattle.std.specs.contracts.impls.GlobalAllocator.TheImpl.{ghosts}
use Rattle.std.proofs.raw_atomic.Walks.{proved_at, leaves}
use Rattle.std_alloc.proofs.ResultValues.{and_tt}
use Rattle.atomic_table.specs.Seated.{word}
use Rattle.tendril_block.proofs.Values.{both, loose_good}
use Rattle.tendril_block.proofs.Lasts.{L, last_in}
use Rattle.tendril_block.proofs.Carved.{rejoin, counted}
use Rattle.tendril_block.specs.declared.node.threading.Threading.{Ghosts}
use Rattle.tendril_block.proofs.Handles.{Z, Self, args, handle_val, handle_good, handle_out, taken}
use Rattle.tendril_block.specs.Owned.{content, owed, reader, Id, Stepper, left}
use Rattle.tendril_block.specs.declared.node.Node.{Node}
use Rattle.tendril_block.specs.contracts.node.Node as node
use Rattle.tendril_block.specs.contracts.node.threading.Threading.subtract as callee
use Rattle.tendril_block.specs.contracts.node.handle.Handle.release.{ended, clauses}
use Rattle.tendril_block.specs.contracts.node.handle.Handle.release.Key.{name as #self}
use Rattle.tendril_block.proofs.node.handle.Handle.release.Statement.{statement}
use Rattle.tendril_block.proofs.node.handle.Handle.release.Code as code

abbrev stayed : (K : RattleType) (k : Ghosts K.Denot) (d : Dict)
    → Stays (ended K k d).signature.params (ended K k d).kept
stayed K k d = (stay_dropped (plain (λ _. Self (param 0 K) k)) no, tt)

pub release_spec : {M : Type 1} → statement M
release_spec 𝓤 𝓛 𝓜 𝓡 wired K law k d met =
    let H = 𝓛.H in let 𝓣 = tables 𝓤 H 𝓜 𝓡 𝓡.env in let En = ended K k d in let stays = stayed K k d in
    let c = clauses K k d 𝓛 𝓜.mem 𝓡.returns in let fn : Fn = inst_fn (args K d) code.function in
    proved_at 𝓛 En stays c 𝓜 𝓡 (Goes-blank 𝓛 1 (plain (λ _. Self (param 0 K) k)) no (λ κs x f. tt), tt)
    (#self (args K d)) fn (code.unfolded 𝓤 H 𝓜 𝓡 wired (K, tt) d) (λ z are.
    let κs = z.0.0 in let v = z.0.3.0 in let shared : Bool = k.any_thread in let a = v.alloc in let x = v.inner in
    let Post : Val → SProp 𝓤 = (walk_of 𝓛 En stays c).post z in
    let Run : List Val → SProp 𝓤 = λ ws. WpFn 𝓤 H 𝓣.C 𝓣.Λ fn ws Post in
    let Out : RattleType = type_at En.signature.result κs in
    let step = triple_of 𝓛 (callee.signature K) (callee.spec K k d 𝓛 𝓜.mem 𝓡.returns) in
    qed 𝓛 (((‵ (flft κs.0 z.0.1.0) ⊛ ‵ ftrue) ⊛ ‵ (owns (types_at En.signature.params κs) z.0.3 z.0.4)) ∷
    (raw (fact 𝓤 (κs.0 ⊑ K.lives)) ⊛ ‵ ftrue) ∷ []) ∵
    move ! (1 ∷ []) $ split ! $ heard ! _ (λ le. drop ! $ split ! $ move ! (1 ∷ []) $ fsplit ! $
    handle_out (param 0 K) k ! v z.0.4.0 (λ b o h e ws fits.
    let w : Val = both (vptr b o) h in let w' : Val = handle_val (vptr b o) h in
    let good_w = loose_good node.the_row Z heap_laws.the_row_laws ghosts b o h fits in
    suffices ! (Run (w' ∷ [])) (subst (λ (us : List Val). ent 𝓤 (Run (w' ∷ [])) (Run us)) (sym (λ j. ws j ++ []))
    (id⊢ 𝓤 (Run (w' ∷ [])))) $
    enter ! 𝓣.C 𝓣.Λ fn (w' ∷ []) Post $
    alloc_all ! (λ l. pass_all ! refl (handle_good b o h fits, tt) $ let Ev = env fn.locals l in
    use1 𝓛 (later (‵ (fex Id (reader shared v.limit a x b o)))) (counted 𝓛 shared v.limit a x b o) $ await ! tt $
    fpick ! (λ i. fsplit ! $ move ! (1 ∷ []) $ fsplit ! $ move ! (1 ∷ []) $ fsplit ! $
    -- [mark; what is shared; invariant; part; the handle; the end of the parameters; the tokens]
    move ! (2 ∷ 0 ∷ 3 ∷ []) $ fjoin3 ! $
    sets ! (of_opd ! (get_in ! (fld ! refl (stop !)) (sub ! 0 refl (whole !)))) refl (tt, tt) $
    sets ! (of_opd ! (get_in ! (fld ! refl (stop !)) (sub ! 1 refl (whole !)))) refl fits $
    let p : Ptr = block_ptr b (o + 0) in let g : Stepper = (v.limit, a, x, o, i) in
    let y : step.Ghost = ((κs, z.0.1, tt, (p, tt), (ptr_val p ∷ [], tt)), g) in
    use0 𝓛 (raw (fact 𝓤 (κs.0 ⊑ K.lives))) (fact_i 𝓤 (κs.0 ⊑ K.lives) (emp 𝓤) le) $ join ! $
    nothing ! $ feq_i ! (List Val) (ptr_val p ∷ []) (ptr_val p ∷ []) refl $ fjoin ! $ move ! (5 ∷ []) $ join ! $
    join ! $ use1 𝓛 (raw (step.pre y)) (id⊢ 𝓤 (step.pre y)) $
    first ! $ blocks ! $ sets ! (addr ! (through ! refl (fld ! refl (stop !)))) refl (tt, tt) $
    calls_at_last ! (fm 𝓛 𝓜 𝓡) step met.subtract y (and_then ! (get ! refl) (no_more !)) (λ u.
    use1 𝓛 (later (some (λ (n : ℕ). ((‵ (flft κs.0 z.0.1.0) ⊛ ‵ ftrue) ⊛ ‵ (u64.own_val n (u ∷ []))) ⊛ some
    (λ (ls : Lasts (callee.ended K k d) κs y.0.3). ‵ (lasts (callee.ended K k d) κs y.0.3 ls) ⊛ ‵
    (left shared g p n))))) (id⊢ 𝓤 (step.post y u)) $
    await ! tt $ pick ! (λ n. split ! $ split ! $ move ! (1 ∷ []) $ fsplit ! $
    feq_l ! (λ eu. flt_l ! (λ small. move ! (1 ∷ []) $
    pick ! (λ _. split ! $ drop ! $ move ! (0 ∷ 2 ∷ 3 ∷ 4 ∷ 1 ∷ []) $
    lands_last ! refl (typed n u (sym (ap only eu), small)) $ exec ! 𝓣.C 𝓣.Λ Ev (after 3 fn.body) (at_ret Ev Post) $
    -- [what the step gives; what was shared; the handle; the end of the parameters; the tokens]
    sets ! (is ! (of_opd ! (get ! refl)) (ap only eu)) refl (tt, record { fits = small }) $
    sets ! (bin ! (get ! refl) (lit ! tt) tt) refl (tt, tt) $ first ! $ branches ! (get ! refl)
    (λ last. let d : Node = record { count = 0; body = x } in
    let lr : L.Denot = record { node = block_ptr b o; alloc = a; limit = v.limit; count = 0; inner = x } in
    let v₁ : Val = live 1 (vcons w vnil) in
    let good : Good (layout Out) v₁ = (and_tt _ good_w.0, (record { fits = lit< tt }, (good_w.1, tt))) in
    use1 𝓛 (later (‵ (word b (o + 0) 0) ⊛ ‵ (content a x b o) ⊛ ‵ (owed v.limit i)))
    (taken 𝓛 shared g b (o + 0) n (eqb→eq n 1 last)) $ await ! tt $ split3 ! $ move ! (2 ∷ []) $
    fpack ! Id (owed v.limit) i $ move ! (2 ∷ []) $ fsplit3 ! $ move ! (4 ∷ 0 ∷ 2 ∷ []) $
    use3 𝓛 (‵ (part_at node.the_row full_share d b o)) (rejoin 𝓛 d b o) $ fjoin ! $ fjoin ! $ move ! (0 ∷ 2 ∷ []) $
    last_in ! v.limit 0 b o h a x $
    sets ! (agg ! (and_then ! (get ! refl) (and_then ! (get ! refl) (no_more !)))) refl good_w $
    sets_last ! (agg ! (and_then ! (lit ! tt) (and_then ! (get ! refl) (no_more !)))) refl good $
    exec ! 𝓣.C 𝓣.Λ Ev (after 6 fn.body) (at_ret Ev Post) $ sets ! (of_opd ! (get ! refl)) refl good $
    use1 𝓛 (‵ (Out.own_val (Some lr) (v₁ ∷ []))) (Some-of 𝓛 L lr w) $
    use0 𝓛 (raw (fact 𝓤 (x ≡ x))) (fact_i 𝓤 (x ≡ x) (emp 𝓤) refl) $ nothing ! $ nothing ! $ fjoin ! $
    returns ! (look_at ! 0 refl) $ free_all ! refl $ keep ! (5 ∷ 0 ∷ 2 ∷ 1 ∷ []) $
    by ! (leaves 𝓛 En stays c z v₁ (Some lr) _ (tt, tt)))
    (λ more. sets_last ! (agg ! (and_then ! (lit ! tt) (no_more !))) refl (tt, (record { fits = lit< tt }, tt)) $
    exec ! 𝓣.C 𝓣.Λ Ev (after 6 fn.body) (at_ret Ev Post) $
    sets ! (of_opd ! (get ! refl)) refl (tt, (record { fits = lit< tt }, tt)) $
    use0 𝓛 (‵ (Out.own_val None (live 0 vnil ∷ []))) (none_of 𝓛 L) $
    use0 𝓛 (raw (fact 𝓤 (Unit {0}))) (fact_i 𝓤 (Unit {0}) (emp 𝓤) tt) $ nothing ! $ nothing ! $ fjoin ! $
    returns ! (look_at ! 0 refl) $ free_all ! refl $ keep ! (7 ∷ 0 ∷ 2 ∷ 1 ∷ []) $
    by ! (leaves 𝓛 En stays c z (live 0 vnil) None _ (tt, tt)))))))))))))
