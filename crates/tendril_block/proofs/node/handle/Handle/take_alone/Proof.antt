-- `take_alone` joins the node's parts again if this is the only reference, else it restores the handle.
use Rattle.std.proofs.Common.{◌≡◌, ℕ, ◌+◌, Bool, false, List, [], ◌∷◌, ◌++◌, refl, sym, ap, subst, lit<}
use mir.Syntax.{Dict, Fn}
use mir.MapTy.{inst_fn}
use contract.BorrowLft.{◌⊑◌}
use mir.Val.{Val, vptr, vcons, vnil}
use base.Logic.{SProp, ent, emp, id⊢}
use base.Fml.{Fml, ftrue, fex, flft}
use prog.Wp.{WpFn}
use types.Kit.{‵, raw, ◌⊛◌, some, later, at_ret, ◌$◌, ◌∵◌, !, qed, by, move, keep, drop, split, join, fsplit, fsplit3}
use types.Kit.{fjoin, fjoin3, fpick, fpack, pick, suffices, use0, use1, use2, use3, await, rewrite, feq_i, feq_l, flt_l}
use types.Run.{stop, fld, addr, lit, of_opd, bin, no_more, and_then, first, blocks, branches, skips, exec, returns}
use types.Run.{returns_within, enter}
use types.ByLocal.{alloc_all, pass_all, free_all, look_at, get, get_in, through, sets, lands_last, env, is}
use types.Part.{agg, sub, whole}
use types.Match.{live}
use contract.Monad.{fact, fact_i}
use contract.Running.{tables}
use denote.Exit.{no}
use Rattle.core.proofs.alloc.Calls.{Goes-blank}
use denote.RattleType.{RattleType, owns}
use denote.Signature.{types_at, type_at, plain}
use denote.Builtin.{u64}
use denote.Memory.{part_at}
use denote.Param.{layout, param}
use denote.RawPtr.{Ptr, block_ptr, ptr_val}
use denote.Steps.{nothing, only, heard}
use denote.Triple.Clauses.{Lasts, lasts}
use denote.Triple.Spec.{triple_of}
use denote.Triple.Call.{calls_at_last}
use denote.Triple.Walked.{Stays, stay_dropped, walk_of}
use base.Fraction.{full_share}
use Rattle.core.specs.declared.result.Result.TheVariants.{Ok, Err}
use Rattle.core.proofs.alloc.Shapes.{after}
use Rattle.core.proofs.atomic.Steps.{typed, fm}
use Rattle.core.proofs.cell.Inside.{Good}
use Rattle.core.proofs.result.Made.{Ok-of, Err-of}
use Rattle.std.proofs.alloc.Global.TheLaws as heap_laws
use Rattle.std.specs.contracts.impls.GlobalAllocator.TheImpl.{ghosts}
use Rattle.std.proofs.raw_atomic.Walks.{proved_at, leaves}
use Rattle.std_alloc.proofs.ResultValues.{and_tt}
use types.RcWeak.{part}
use Rattle.std_alloc.proofs.RcSteps.{is_not, is_so}
use Rattle.std_alloc.specs.Owners.{sole_or_counted}
use Rattle.tendril_count.specs.Rule.{role_coded, Reader, mark}
use Rattle.tendril_block.proofs.Values.{both, loose_good}
use Rattle.tendril_block.proofs.Lasts.{L, last_in}
use Rattle.tendril_block.proofs.Carved.{rejoin, counted, kept_twice}
use Rattle.tendril_block.specs.declared.node.threading.Threading.{Ghosts}
use Rattle.tendril_block.proofs.Handles.{Z, Self, args, handle_val, handle_good, handle_out, handle_in, granted}
use Rattle.tendril_block.proofs.Handles.{refused, gives_up}
use Rattle.tendril_block.specs.Owned.{BodyRow, body_at, rule, rule_kept, all_but_body, content, owed, reader, writer}
use Rattle.tendril_block.specs.Owned.{Id, Stepper, seen_by}
use Rattle.tendril_block.specs.declared.node.Node.{Node}
use Rattle.tendril_block.specs.contracts.node.Node as node
use Rattle.tendril_block.specs.contracts.node.threading.Threading.alone as callee
use Rattle.tendril_block.specs.contracts.node.handle.Handle.take_alone.{ended, clauses}
use Rattle.tendril_block.specs.contracts.node.handle.Handle.take_alone.Key.{name as #self}
use Rattle.tendril_block.proofs.node.handle.Handle.take_alone.Statement.{statement}
use Rattle.tendril_block.proofs.node.handle.Handle.take_alone.Code as code

abbrev stayed : (K : RattleType) (k : Ghosts K.Denot) (d : Dict)
    → Stays (ended K k d).signature.params (ended K k d).kept
stayed K k d = (stay_dropped (plain (λ _. Self (param 0 K) k)) no, tt)

pub take_alone_spec : {M : Type 1} → statement M
take_alone_spec 𝓤 𝓛 𝓜 𝓡 wired K law k d met =
    let H = 𝓛.H in let 𝓣 = tables 𝓤 H 𝓜 𝓡 𝓡.env in let En = ended K k d in let stays = stayed K k d in
    let c = clauses K k d 𝓛 𝓜.mem 𝓡.returns in let fn : Fn = inst_fn (args K d) code.function in
    proved_at 𝓛 En stays c 𝓜 𝓡 (Goes-blank 𝓛 1 (plain (λ _. Self (param 0 K) k)) no (λ κs x f. tt), tt)
    (#self (args K d)) fn (code.unfolded 𝓤 H 𝓜 𝓡 wired (K, tt) d) (λ z are.
    let κs = z.0.0 in let v = z.0.3.0 in let shared : Bool = k.any_thread in
    let R : RattleType = Self (param 0 K) k in let a = v.alloc in let x = v.inner in
    let Post : Val → SProp 𝓤 = (walk_of 𝓛 En stays c).post z in
    let Run : List Val → SProp 𝓤 = λ ws. WpFn 𝓤 H 𝓣.C 𝓣.Λ fn ws Post in
    let Out : RattleType = type_at En.signature.result κs in
    let step = triple_of 𝓛 (callee.signature K) (callee.spec K k d 𝓛 𝓜.mem 𝓡.returns) in
    qed 𝓛 (((‵ (flft κs.0 z.0.1.0) ⊛ ‵ ftrue) ⊛ ‵ (owns (types_at En.signature.params κs) z.0.3 z.0.4)) ∷
    (raw (fact 𝓤 (κs.0 ⊑ K.lives)) ⊛ ‵ ftrue) ∷ []) ∵
    move ! (1 ∷ []) $ split ! $ heard ! _ (λ le. drop ! $ split ! $ move ! (1 ∷ []) $ fsplit ! $
    handle_out (param 0 K) k ! v z.0.4.0 (λ b o h e ws fits.
    let w : Val = both (vptr b o) h in let w' : Val = handle_val (vptr b o) h in
    let good_w' = handle_good b o h fits in
    let good_w = loose_good node.the_row Z heap_laws.the_row_laws ghosts b o h fits in
    suffices ! (Run (w' ∷ [])) (subst (λ (us : List Val). ent 𝓤 (Run (w' ∷ [])) (Run us)) (sym (λ j. ws j ++ []))
    (id⊢ 𝓤 (Run (w' ∷ [])))) $
    enter ! 𝓣.C 𝓣.Λ fn (w' ∷ []) Post $ alloc_all ! (λ l. pass_all ! refl (good_w', tt) $ let Ev = env fn.locals l in
    use1 𝓛 (later (‵ (fex Id (reader shared v.limit a x b o)))) (counted 𝓛 shared v.limit a x b o) $ await ! tt $
    fpick ! (λ i. fsplit ! $ move ! (1 ∷ []) $ fsplit ! $
    let P : Fml = rule shared v.limit a x b o i in let Kept : Fml = rule_kept shared b (o + 0) P in
    use1 𝓛 (‵ Kept ⊛ ‵ Kept) (kept_twice 𝓛 shared b (o + 0) P) $ split ! $ move ! (2 ∷ []) $ fsplit ! $
    -- [mark; shown; invariant; invariant; part; the handle; the end of the parameters; the tokens]
    move ! (0 ∷ 4 ∷ []) $ fjoin ! $ move ! (2 ∷ 0 ∷ []) $ fjoin ! $
    sets ! (of_opd ! (get_in ! (fld ! refl (stop !)) (sub ! 0 refl (whole !)))) refl (tt, tt) $
    sets ! (of_opd ! (get_in ! (fld ! refl (stop !)) (sub ! 1 refl (whole !)))) refl fits $
    sets ! (of_opd ! (get_in ! (fld ! refl (stop !)) (sub ! 2 refl (whole !)))) refl (tt, tt) $
    let p : Ptr = block_ptr b (o + 0) in let g : Stepper = (v.limit, a, x, o, i) in
    let y : step.Ghost = ((κs, z.0.1, tt, (p, tt), (ptr_val p ∷ [], tt)), g) in
    use0 𝓛 (raw (fact 𝓤 (κs.0 ⊑ K.lives))) (fact_i 𝓤 (κs.0 ⊑ K.lives) (emp 𝓤) le) $ join ! $
    nothing ! $ feq_i ! (List Val) (ptr_val p ∷ []) (ptr_val p ∷ []) refl $ fjoin ! $ move ! (6 ∷ []) $ join ! $
    join ! $ use1 𝓛 (raw (step.pre y)) (id⊢ 𝓤 (step.pre y)) $
    first ! $ blocks ! $ sets ! (addr ! (through ! refl (fld ! refl (stop !)))) refl (tt, tt) $
    calls_at_last ! (fm 𝓛 𝓜 𝓡) step met.alone y (and_then ! (get ! refl) (no_more !)) (λ u.
    use1 𝓛 (later (some (λ (n : ℕ). ((‵ (flft κs.0 z.0.1.0) ⊛ ‵ ftrue) ⊛ ‵ (u64.own_val n (u ∷ []))) ⊛ some
    (λ (ls : Lasts (callee.ended K k d) κs y.0.3). ‵ (lasts (callee.ended K k d) κs y.0.3 ls) ⊛ ‵
    (seen_by shared g p n))))) (id⊢ 𝓤 (step.post y u)) $
    await ! tt $ pick ! (λ n. split ! $ split ! $ move ! (1 ∷ []) $ fsplit ! $
    feq_l ! (λ eu. flt_l ! (λ small. move ! (1 ∷ []) $
    pick ! (λ _. split ! $ drop ! $ move ! (0 ∷ 2 ∷ 3 ∷ 4 ∷ 5 ∷ 1 ∷ []) $
    lands_last ! refl (typed n u (sym (ap only eu), small)) $ exec ! 𝓣.C 𝓣.Λ Ev (after 4 fn.body) (at_ret Ev Post) $
    -- [what the load gives; shown; invariant; the handle; the end of the parameters; the tokens]
    sets ! (is ! (of_opd ! (get ! refl)) (ap only eu)) refl (tt, record { fits = small }) $
    sets ! (bin ! (get ! refl) (lit ! tt) tt) refl (tt, tt) $ first ! $ branches ! (get ! refl)
    (λ more. let v₁ : Val = live 1 (vcons w' vnil) in let good : Good (layout Out) v₁ =
    (and_tt _ good_w'.0, (record { fits = lit< tt }, (good_w'.1, tt))) in
    use1 𝓛 (‵ (mark role_coded.code i.1 i.2 Reader) ⊛ ‵ (part 63 i.0))
    (refused 𝓛 shared g b (o + 0) n (is_not n 1 more)) $ split ! $
    move ! (0 ∷ 2 ∷ []) $ fjoin ! $ move ! (1 ∷ 2 ∷ 0 ∷ []) $ fjoin3 ! $
    fpack ! Id (reader shared v.limit a x b o) i $
    fpack ! Bool (sole_or_counted (fex Id (writer shared v.limit a x b o))
    (fex Id (reader shared v.limit a x b o))) false $
    handle_in (param 0 K) k ! met.crosses v.limit b o h a x $
    rewrite ! 0 (λ (r : Ptr). ‵ (R.own_val
    (record { node = r; alloc = a; kind = record {}; limit = v.limit; inner = x }) (w' ∷ []))) (sym e) refl $
    sets ! (agg ! (and_then ! (get ! refl) (and_then ! (get ! refl) (and_then ! (get ! refl) (no_more !))))) refl
    good_w' $ sets ! (agg ! (and_then ! (lit ! tt) (and_then ! (get ! refl) (no_more !)))) refl good $
    use1 𝓛 (‵ (Out.own_val (Err v) (v₁ ∷ []))) (Err-of 𝓛 L R v w') $
    use0 𝓛 (raw (fact 𝓤 (v ≡ v))) (fact_i 𝓤 (v ≡ v) (emp 𝓤) refl) $ nothing ! $ nothing ! $ fjoin ! $
    returns_within ! Post refl (look_at ! 0 refl) $ free_all ! refl $ keep ! (4 ∷ 0 ∷ 2 ∷ 1 ∷ []) $
    by ! (leaves 𝓛 En stays c z v₁ (Err v) _ (tt, tt)))
    (λ last. let d : Node = record { count = 1; body = x } in
    let lr : L.Denot = record { node = block_ptr b o; alloc = a; limit = v.limit; count = 1; inner = x } in
    let v₀ : Val = live 0 (vcons w vnil) in
    let good : Good (layout Out) v₀ = (and_tt _ good_w.0, (record { fits = lit< tt }, (good_w.1, tt))) in skips ! $
    exec ! 𝓣.C 𝓣.Λ Ev (after 7 fn.body) (at_ret Ev Post) $
    use1 𝓛 (later (‵ (part_at BodyRow full_share x b (o + body_at)) ⊛ ‵ (all_but_body shared v.limit a x b o i)))
    (granted 𝓛 shared g b n (is_so n 1 last)) $ await ! tt $ split ! $ move ! (1 ∷ []) $ fsplit3 ! $
    move ! (2 ∷ []) $ fsplit3 ! $
    -- [the machine; the right to free; apart; mark; word; body; shown; invariant; the handle; the end of the
    -- parameters; the tokens]
    move ! (3 ∷ 0 ∷ []) $ use2 𝓛 (later (‵ (owed v.limit i)))
    (gives_up 𝓛 shared v.limit b (o + 0) (content a x b o) i) $ await ! tt $ fpack ! Id (owed v.limit) i $
    -- [the duty; the right to free; apart; word; body; shown; invariant; the handle; the end of the parameters; the
    -- tokens]
    move ! (3 ∷ 4 ∷ 2 ∷ []) $ use3 𝓛 (‵ (part_at node.the_row full_share d b o)) (rejoin 𝓛 d b o) $
    move ! (0 ∷ 2 ∷ []) $ fjoin ! $ fjoin ! $ move ! (0 ∷ 3 ∷ []) $ last_in ! v.limit 1 b o h a x $
    sets ! (agg ! (and_then ! (get ! refl) (and_then ! (get ! refl) (no_more !)))) refl good_w $
    sets ! (agg ! (and_then ! (lit ! tt) (and_then ! (get ! refl) (no_more !)))) refl good $
    use1 𝓛 (‵ (Out.own_val (Ok lr) (v₀ ∷ []))) (Ok-of 𝓛 L R lr w) $
    let Told : Type 0 = (1 ≡ 1) × (x ≡ x) in use0 𝓛 (raw (fact 𝓤 Told)) (fact_i 𝓤 Told (emp 𝓤) (refl, refl)) $
    nothing ! $ nothing ! $ fjoin ! $
    returns ! (look_at ! 0 refl) $ free_all ! refl $ keep ! (6 ∷ 0 ∷ 2 ∷ 1 ∷ []) $
    by ! (leaves 𝓛 En stays c z v₀ (Ok lr) _ (tt, tt)))))))))))))
