-- `alone_mut` borrows the body of the only reference. When the borrow ends, it is joined with the node's other parts.
use Rattle.std.proofs.Common.{◌≡◌, ℕ, ◌+◌, Bool, false, List, [], ◌∷◌, refl, sym, ap, lit<}
use mir.Syntax.{Dict, Fn, named}
use mir.MapTy.{inst_fn}
use contract.BorrowLft.{◌⊑◌}
use denote.Param.{param}
use mir.Val.{Val, vptr, vcons, vnil}
use base.Fraction.{full_share}
use base.Logic.{SProp, emp, id⊢}
use base.Fml.{GName, Fml, ftrue, fsep, fex, flft, fres}
use types.Logic.{sem}
use types.Kit.{‵, raw, ◌⊛◌, some, later, at_ret, ◌$◌, ◌∵◌, !, qed, by, move, keep, drop, split, split3, join, group}
use types.Kit.{fsplit, fsplit3, fjoin, fjoin3, fpick, fpack, pick, use0, use1, await, rewrite, feq_i, feq_l, flt_l}
use types.Run.{stop, fld, load, addr, lit, of_opd, bin, no_more, and_then, first, blocks, skips, branches, exec}
use types.Run.{returns, returns_within, enter}
use types.ByLocal.{alloc_all, pass_all, free_all, look_at, get, through, sets, sets_last, lands_last, env, is}
use types.Part.{agg, look_in, sub, whole}
use types.Match.{live}
use types.RcWeak.{part}
use contract.Monad.{fact, fact_i}
use contract.Running.{tables}
use denote.Exit.{no}
use denote.RattleType.{RattleType, owns}
use denote.Builtin.{u64}
use denote.Follow.{follows, follows_by, lends_Part}
use denote.Memory.{cell_at, part_at}
use denote.RawPtr.{Ptr, block_ptr, ptr_val}
use denote.Ref.{MutRef, MutBor, mut_vals, mut_Tells}
use denote.Signature.{types_at, plain, mut_ref_to}
use denote.Steps.{nothing, only, heard, opens, closes}
use denote.Triple.Call.{calls_at_last}
use denote.Triple.Clauses.{Lasts, lasts}
use denote.Triple.Spec.{triple_of}
use denote.Triple.Walked.{Stays, stay_dropped, walk_of, Goes-spent_ref}
use Rattle.core.proofs.alloc.Shapes.{after}
use Rattle.core.proofs.atomic.Steps.{typed, fm}
use Rattle.core.specs.contracts.option.Option as option
use Rattle.core.specs.declared.option.Option.TheVariants.{None, Some}
use Rattle.core.proofs.option.Made.{Some-of, none_of}
use Rattle.std.proofs.raw_atomic.Walks.{proved, leaves}
use Rattle.std_alloc.proofs.RcSteps.{is_not, is_so}
use Rattle.std_alloc.specs.Owners.{sole_or_counted}
use Rattle.tendril_count.specs.Rule.{role_coded, Reader, mark}
use Rattle.tendril_block.proofs.Carved.{counted, kept_twice}
use Rattle.tendril_block.specs.declared.node.threading.Threading.{Ghosts}
use Rattle.tendril_block.proofs.Handles.{Z, Self, args, handle_val, handle_out, handle_in, granted, refused, back}
use Rattle.tendril_block.specs.Owned.{BodyRow, BodyIn, body_at, rule, rule_kept, all_but_body, reader, writer, Id}
use Rattle.tendril_block.specs.Owned.{Stepper, seen_by}
use Rattle.tendril_block.specs.Written.{with_body}
use Rattle.tendril_block.specs.contracts.node.threading.Threading.alone as callee
use Rattle.tendril_block.specs.contracts.node.handle.Handle.alone_mut.{ended, clauses}
use Rattle.tendril_block.specs.contracts.node.handle.Handle.alone_mut.Key.{name as #self}
use Rattle.tendril_block.proofs.node.handle.Handle.alone_mut.Statement.{statement}
use Rattle.tendril_block.proofs.node.handle.Handle.alone_mut.Code as code

abbrev stayed : (K : RattleType) (k : Ghosts K.Denot) (d : Dict)
    → Stays (ended K k d).signature.params (ended K k d).kept
stayed K k d = (stay_dropped (mut_ref_to (0 ∷ []) tt (plain (λ _. Self (param 0 K) k))) no, tt)

eight : 8 ≡ body_at
eight = refl

pub alone_mut_spec : {M : Type 1} → statement M
unfolding follows_by
alone_mut_spec 𝓤 𝓛 𝓜 𝓡 wired K law k d met =
    let H = 𝓛.H in let 𝓣 = tables 𝓤 H 𝓜 𝓡 𝓡.env in let En = ended K k d in let stays = stayed K k d in
    let c = clauses K k d 𝓛 𝓜.mem 𝓡.returns in let fn : Fn = inst_fn (args K d) code.function in
    proved 𝓛 En stays c 𝓜 𝓡 (Goes-spent_ref 𝓛 2 (0 ∷ []) tt (plain (λ _. Self (param 0 K) k)), tt)
    (#self (args K d)) fn (code.unfolded 𝓤 H 𝓜 𝓡 wired (K, tt) d)
    (λ κs. (mut_vals, tt)) (λ κs. (mut_Tells (named 0) κs.0 (Self (param 0 K) k), tt)) (λ κs qs bounds a g are.
    let κ = κs.0 in let q = qs.0 in let shared : Bool = k.any_thread in let R : RattleType = Self (param 0 K) k in
    let b = a.0.ref_ptr.0 in let o = a.0.ref_ptr.1 in let γ = a.0.ghost_name in let me = a.0.now in
    let x = me.inner in let h = me.alloc in
    let z : (walk_of 𝓛 En stays c).Ghost = ((κs, qs, bounds, a, (vptr b o ∷ [], tt)), g) in
    let Post : Val → SProp 𝓤 = (walk_of 𝓛 En stays c).post z in
    let Lent : RattleType = MutRef (named 0) κ BodyRow in
    let step = triple_of 𝓛 (callee.signature K) (callee.spec K k d 𝓛 𝓜.mem 𝓡.returns) in
    qed 𝓛 (((‵ (flft κ q) ⊛ ‵ (flft κs.1.0 qs.1.0) ⊛ ‵ ftrue) ⊛ ‵
    (owns (types_at En.signature.params κs) a (vptr b o ∷ [], tt))) ∷ (raw (fact 𝓤 (κs.1.0 ⊑ K.lives)) ⊛ ‵ ftrue)
    ∷ []) ∵
    move ! (1 ∷ []) $ split ! $ heard ! _ (λ le. drop ! $
    enter ! 𝓣.C 𝓣.Λ fn (vptr b o ∷ []) Post $
    alloc_all ! (λ l. pass_all ! refl ((tt, tt), tt) $ let Ev = env fn.locals l in
    split ! $ split ! $ move ! (2 ∷ []) $ fsplit ! $ fsplit3 ! $ drop ! $ move ! (0 ∷ 1 ∷ 3 ∷ []) $
    opens ! tt R {h = me} b o (λ vs.
    move ! (1 ∷ []) $ handle_out (param 0 K) k ! me vs (λ pb po u ep ws fits. let v : Val =
    handle_val (vptr pb po) u in let p : Ptr = block_ptr pb (po + 0) in let there = po + body_at in
    rewrite ! 2 (λ (us : List Val). ‵ (cell_at full_share R.mir us b o)) ws refl $
    use1 𝓛 (later (‵ (fex Id (reader shared me.limit h x pb po)))) (counted 𝓛 shared me.limit h x pb po) $
    await ! tt $ fpick ! (λ i. fsplit ! $ move ! (1 ∷ []) $ fsplit ! $
    let P : Fml = rule shared me.limit h x pb po i in let Kept : Fml = rule_kept shared pb (po + 0) P in
    use1 𝓛 (‵ Kept ⊛ ‵ Kept) (kept_twice 𝓛 shared pb (po + 0) P) $ split ! $ move ! (2 ∷ []) $ fsplit ! $
    -- [mark; shown; invariant; invariant; part; the handle; the cell; the open borrow; obs; auth]
    move ! (0 ∷ 4 ∷ []) $ fjoin ! $ move ! (2 ∷ 0 ∷ []) $ fjoin ! $
    let s : Stepper = (me.limit, h, x, po, i) in
    let y : step.Ghost = ((κs.1, qs.1, tt, (p, tt), (ptr_val p ∷ [], tt)), s) in
    use0 𝓛 (raw (fact 𝓤 (κs.1.0 ⊑ K.lives))) (fact_i 𝓤 (κs.1.0 ⊑ K.lives) (emp 𝓤) le) $ join ! $
    nothing ! $ feq_i ! (List Val) (ptr_val p ∷ []) (ptr_val p ∷ []) refl $ fjoin ! $ move ! (10 ∷ []) $ join ! $
    join ! $ use1 𝓛 (raw (step.pre y)) (id⊢ 𝓤 (step.pre y)) $
    sets ! (of_opd ! (load ! (through ! refl (fld ! refl (stop !))) (look_in ! 4 (sub ! 0 refl (whole !))))) refl
    (tt, tt) $
    first ! $ blocks ! $ sets ! (addr ! (through ! refl (fld ! refl (stop !)))) refl (tt, tt) $
    calls_at_last ! (fm 𝓛 𝓜 𝓡) step met.alone y (and_then ! (get ! refl) (no_more !)) (λ r.
    use1 𝓛 (later (some (λ (n : ℕ). ((‵ (flft κs.1.0 qs.1.0) ⊛ ‵ ftrue) ⊛ ‵ (u64.own_val n (r ∷ []))) ⊛ some
    (λ (ls : Lasts (callee.ended K k d) κs.1 y.0.3). ‵ (lasts (callee.ended K k d) κs.1 y.0.3 ls) ⊛ ‵
    (seen_by shared s p n))))) (id⊢ 𝓤 (step.post y r)) $
    await ! tt $ pick ! (λ n. split ! $ split ! $ move ! (1 ∷ []) $ fsplit ! $
    feq_l ! (λ er. flt_l ! (λ small. move ! (1 ∷ []) $
    pick ! (λ _. split ! $ drop ! $ move ! (0 ∷ 2 ∷ 3 ∷ 4 ∷ 5 ∷ 6 ∷ 7 ∷ 8 ∷ 9 ∷ 1 ∷ []) $
    lands_last ! refl (typed n r (sym (ap only er), small)) $ exec ! 𝓣.C 𝓣.Λ Ev (after 2 fn.body) (at_ret Ev Post) $
    -- [what the load gives; shown; invariant; the handle; the cell; the open borrow; obs; auth]
    sets ! (is ! (of_opd ! (get ! refl)) (ap only er)) refl (tt, record { fits = small }) $
    sets ! (bin ! (get ! refl) (lit ! tt) tt) refl (tt, tt) $ first ! $ branches ! (get ! refl)
    (λ more. sets ! (agg ! (and_then ! (lit ! tt) (no_more !))) refl (tt, (record { fits = lit< tt }, tt)) $
    use1 𝓛 (‵ (mark role_coded.code i.1 i.2 Reader) ⊛ ‵ (part 63 i.0))
    (refused 𝓛 shared s pb (po + 0) n (is_not n 1 more)) $ split ! $
    move ! (0 ∷ 2 ∷ []) $ fjoin ! $ move ! (1 ∷ 2 ∷ 0 ∷ []) $ fjoin3 ! $
    fpack ! Id (reader shared me.limit h x pb po) i $
    fpack ! Bool (sole_or_counted (fex Id (writer shared me.limit h x pb po))
    (fex Id (reader shared me.limit h x pb po))) false $
    handle_in (param 0 K) k ! met.crosses me.limit pb po u h x $
    rewrite ! 0 (λ (r' : Ptr). ‵ (R.own_val
    (record { node = r'; alloc = h; kind = record {}; limit = me.limit; inner = x }) (v ∷ []))) (sym ep) refl $
    move ! (1 ∷ 0 ∷ 2 ∷ 3 ∷ 4 ∷ []) $ closes ! tt R me (v ∷ []) b o $
    use1 𝓛 (‵ (fres γ (R.coded.code me))) (𝓛.names.obs-res γ (R.coded.code me)) $
    use0 𝓛 (raw (fact 𝓤 (Unit {0}))) (fact_i 𝓤 (Unit {0}) (emp 𝓤) tt) $ move ! (1 ∷ 0 ∷ []) $ join ! $
    use0 𝓛 (‵ ((option.the_row Lent).own_val None (live 0 vnil ∷ []))) (none_of 𝓛 Lent) $ nothing ! $ nothing ! $
    fjoin ! $ move ! (4 ∷ 6 ∷ []) $ join ! $
    returns_within ! Post refl (look_at ! 0 refl) $ free_all ! refl $ keep ! (0 ∷ 1 ∷ 2 ∷ 3 ∷ []) $
    by ! (leaves 𝓛 En stays c z (live 0 vnil) None (tt, tt) (tt, tt)))
    (λ last. let at : Val = vptr pb there in skips ! $ exec ! 𝓣.C 𝓣.Λ Ev (after 5 fn.body) (at_ret Ev Post) $
    first ! $ blocks ! $ sets ! (is ! (addr ! (through ! refl (fld ! refl (stop !))))
    (ap (λ (j : ℕ). vptr pb (po + j)) eight)) refl (tt, tt) $
    sets_last ! (agg ! (and_then ! (lit ! tt) (and_then ! (get ! refl) (no_more !)))) refl
    (tt, (record { fits = lit< tt }, (tt, tt))) $
    exec ! 𝓣.C 𝓣.Λ Ev (after 6 fn.body) (at_ret Ev Post) $
    sets ! (of_opd ! (get ! refl)) refl (tt, (record { fits = lit< tt }, (tt, tt))) $
    use1 𝓛 (later (‵ (part_at BodyRow full_share x pb there) ⊛ ‵ (all_but_body shared me.limit h x pb po i)))
    (granted 𝓛 shared s pb n (is_so n 1 last)) $ await ! tt $ split ! $
    -- [the body; the node's other parts; shown; invariant; the handle; the cell; the open borrow; obs; auth]
    move ! (1 ∷ 4 ∷ 5 ∷ []) $ fjoin3 ! $ move ! (4 ∷ 5 ∷ 6 ∷ 1 ∷ 0 ∷ []) $ group ! 5 $
    let Back : Fml = fsep (all_but_body shared me.limit h x pb po i)
    (fsep (Z.own_val h (u ∷ [])) (cell_at full_share R.mir (v ∷ []) b o)) in
    use1 𝓛 (later (some (λ (γ' : GName). ‵
    (Lent.own_val (record { ref_ptr = (pb, there); ghost_name = γ'; now = x }) (at ∷ [])) ⊛ ‵ (flft κ q) ⊛ ‵
    (follows R BodyRow γ γ' (with_body me)))))
    (lends_Part 𝓛 R BodyRow (with_body me) (named 0) κ q b o pb there γ (sem 𝓛 Back)
    (back 𝓛 (param 0 K) k me b o pb po u i ep met.crosses) (R.coded.code me) (R.coded.code me) x) $ await ! tt $
    pick ! (λ γ'.
    let lent : MutBor BodyIn = record { ref_ptr = (pb, there); ghost_name = γ'; now = x } in
    split3 ! $ use1 𝓛 (‵ ((option.the_row Lent).own_val (Some lent) (live 1 (vcons at vnil) ∷ [])))
    (Some-of 𝓛 Lent lent at) $
    use0 𝓛 (raw (fact 𝓤 (x ≡ x))) (fact_i 𝓤 (x ≡ x) (emp 𝓤) refl) $ move ! (3 ∷ 0 ∷ []) $ join ! $ nothing ! $
    nothing ! $ fjoin ! $ move ! (3 ∷ 7 ∷ []) $ join ! $
    -- [the tokens; the end of the parameters; what it says; the result]
    returns ! (look_at ! 0 refl) $ free_all ! refl $ keep ! (0 ∷ 1 ∷ 3 ∷ 2 ∷ []) $
    by ! (leaves 𝓛 En stays c z (live 1 (vcons at vnil)) (Some lent) (tt, tt) (tt, tt)))))))))))))))
