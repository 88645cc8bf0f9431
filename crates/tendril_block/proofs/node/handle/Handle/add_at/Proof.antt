-- `add_at` steps through a `&`, with shares of the lifetime's token and of the mark.
-- If the step added a reference, the call returns it.
use Rattle.std.proofs.Common.{◌≡◌, ℕ, ◌+◌, ◌^◌, ◌<◌, Bool, false, List, [], ◌∷◌, ◌++◌, refl, sym, ap, ◌∙◌, subst, lit<}
use Rattle.std.proofs.Common.{w64}
use lib.Dec.{eqb→eq}
use mir.Syntax.{Dict, Fn, ty_ptr}
use mir.MapTy.{inst_fn}
use contract.BorrowLft.{◌⊑◌}
use mir.Val.{Val, vint, vptr, vcons, vnil}
use base.Share
use base.Logic.{SProp, ent, emp, id⊢}
use base.Fml.{Fml, ftrue, fsep, fex, flft, fhide}
use prog.Wp.{WpFn}
use types.Kit.{‵, raw, ◌⊛◌, some, later, at_ret, ◌$◌, ◌∵◌, !, qed, by, move, keep, drop, split, join, fsplit, fsplit3}
use types.Kit.{fjoin, fjoin3, fpick, fpack, pick, suffices, use0, use1, use2, await, rewrite, feq_i, feq_l, flt_i}
use types.Kit.{flt_l}
use types.Run.{stop, fld, load, addr, look, lit, of_opd, bin, no_more, and_then, first, blocks, branches, exec, returns}
use types.Run.{enter}
use types.ByLocal.{alloc_all, pass_all, free_all, look_at, get, through, sets, sets_last, lands_last, env, is}
use types.Part.{agg}
use types.Match.{live}
use types.RcWeak.{part}
use types.Tokens.{shr_bor-open, obor_close}
use types.Within.{tokens_halve}
use contract.Monad.{fact, fact_i}
use contract.Running.{tables}
use denote.Exit.{yes}
use denote.RattleType.{RattleType, owns}
use denote.Builtin.{RefOf, u64}
use denote.Copied.{plain_Copied}
use denote.Memory.{cell_at, hidden_shr}
use denote.Opens.{unhide, hide}
use denote.Param.{layout, param}
use denote.RawPtr.{Ptr, RawPtr, block_ptr, ptr_val, block_of, count_of, at_block, coded_ptr, ptr_own, rawptr_pure}
use denote.Signature.{types_at, type_at, plain}
use denote.Steps.{nothing, only, heard, looks, shuts}
use denote.Struct.Laws.{RawPtr-laws}
use denote.Struct.Lending.{lent_out}
use denote.Struct.Owning.{shape, to}
use denote.Struct.Struct.{Struct}
use denote.Triple.Call.{calls_at_last}
use denote.Triple.Clauses.{Lasts, lasts}
use denote.Triple.Spec.{triple_of}
use denote.Triple.Walked.{Stays, stay_dropped, walk_of, Goes-dropped}
use Rattle.core.specs.declared.result.Result.TheVariants.{Ok, Err}
use Rattle.core.proofs.alloc.Calls.{handle_tells}
use Rattle.core.proofs.alloc.Shapes.{after}
use Rattle.core.proofs.atomic.Steps.{typed, fm}
use Rattle.core.proofs.cell.Inside.{Good}
use Rattle.core.proofs.result.Made.{Ok-of, Err-of}
use Rattle.std.specs.contracts.alloc.Global as heap
use Rattle.std.proofs.raw_atomic.Walks.{proved_at, leaves}
use Rattle.std_alloc.proofs.ResultValues.{and_tt}
use Rattle.std_alloc.specs.Owners.{sole_or_counted}
use Rattle.tendril_count.specs.Rule.{role_coded, Reader, mark}
use Rattle.tendril_count.proofs.Parts.{mark_halves}
use Rattle.core.specs.contracts.marker.PhantomData as marker
use Rattle.tendril_block.specs.declared.node.threading.Threading.{Ghosts}
use Rattle.tendril_block.proofs.Carved.{kept_twice}
use Rattle.tendril_block.proofs.Handles.{Z, al, Self, args, handle_val, handle_good, handle_in, joined}
use Rattle.tendril_block.specs.Owned.{limit, whose, content, rule_kept, rule, reader, writer, Id, Joining, joined_to}
use Rattle.tendril_block.specs.Owned.{block_shares}
use Rattle.tendril_block.specs.contracts.node.handle.Handle as block
use Rattle.tendril_block.specs.contracts.node.threading.Threading.add as callee
use Rattle.tendril_block.specs.contracts.node.handle.Handle.add_at.{ended, clauses}
use Rattle.tendril_block.specs.contracts.node.handle.Handle.add_at.Key.{name as #self}
use Rattle.tendril_block.proofs.node.handle.Handle.add_at.Statement.{statement}
use Rattle.tendril_block.proofs.node.handle.Handle.add_at.Code as code

abbrev Words : (K : RattleType) → Ghosts K.Denot → RattleType
Words K k = Struct (shape (block.the_type K k))

abbrev stayed : (K : RattleType) (k : Ghosts K.Denot) (d : Dict)
    → Stays (ended K k d).signature.params (ended K k d).kept
stayed K k d = (
  stay_dropped (RefOf (0 ∷ []) tt (plain (λ _. Self (param 0 K) k)) (λ _. tt)) yes,
  (
    stay_dropped (plain (λ _. Z)) yes,
    (stay_dropped (plain (λ _. u64)) yes, (stay_dropped (plain (λ _. u64)) yes, tt)),
  ),
)

pub add_at_spec : {M : Type 1} → statement M
add_at_spec 𝓤 𝓛 𝓜 𝓡 wired K law k d met =
    let H = 𝓛.H in let 𝓣 = tables 𝓤 H 𝓜 𝓡 𝓡.env in let En = ended K k d in let stays = stayed K k d in
    let c = clauses K k d 𝓛 𝓜.mem 𝓡.returns in let fn : Fn = inst_fn (args K d) code.function in
    let number = Goes-dropped 𝓛 2 (plain (λ _. u64)) yes (λ κs x f. refl) in
    proved_at 𝓛 En stays c 𝓜 𝓡 (
      Goes-dropped 𝓛 2 (RefOf (0 ∷ []) tt (plain (λ _. Self (param 0 K) k)) (λ _. tt)) yes
          (λ κs x f. refl),
      (Goes-dropped 𝓛 2 (plain (λ _. Z)) yes (λ κs x f. refl), (number, (number, tt))),
    )
    (#self (args K d)) fn (code.unfolded 𝓤 H 𝓜 𝓡 wired (K, tt) d) (λ z are.
    let κs = z.0.0 in let κ = κs.0 in let q = z.0.1.0 in let v = z.0.3.0 in let b = v.ref_ptr.0 in
    let o = v.ref_ptr.1 in let shared : Bool = k.any_thread in let R : RattleType = Self (param 0 K) k in
    let me = v.now in let p = me.node in let pb = block_of p in let po = count_of p in let x = me.inner in
    let l₀ = me.limit in
    let a = z.0.3.1.0 in let old = z.0.3.1.1.0 in let new = z.0.3.1.1.1.0 in
    let Post : Val → SProp 𝓤 = (walk_of 𝓛 En stays c).post z in
    let Run : List Val → SProp 𝓤 = λ ws. WpFn 𝓤 H 𝓣.C 𝓣.Λ fn ws Post in
    let Out : RattleType = type_at En.signature.result κs in
    let step = triple_of 𝓛 (callee.signature K) (callee.spec K k d 𝓛 𝓜.mem 𝓡.returns) in
    qed 𝓛 (((‵ (flft κ q) ⊛ ‵ (flft κs.1.0 z.0.1.1.0) ⊛ ‵ ftrue) ⊛ ‵
    (owns (types_at En.signature.params κs) z.0.3 z.0.4)) ∷ raw (fact 𝓤 (κs.1.0 ⊑ K.lives)) ∷ raw
    (fact 𝓤 (old < limit l₀)) ∷ raw (fact 𝓤 (new ≡ old + 1)) ∷ []) ∵
    move ! (1 ∷ []) $ heard ! _ (λ le. move ! (1 ∷ []) $
    heard ! _ (λ below. move ! (1 ∷ []) $
    heard ! _ (λ next. split ! $ split ! $ move ! (2 ∷ []) $ fsplit ! $ move ! (1 ∷ []) $ fsplit ! $
    handle_tells al ! a z.0.4.1.0 (λ h ea fits.
    -- [the handle; the numbers; the `&`; the token; nothing]
    let vs : List Val = vptr b o ∷ h ∷ vint w64 old ∷ vint w64 new ∷ [] in
    suffices ! (Run vs) (subst (λ (us : List Val). ent 𝓤 (Run vs) (Run us))
    (sym (λ j. are.0.0 j ++ (ea j ++ (are.1.1.0.0 j ++ (are.1.1.1.0.0 j ++ []))))) (id⊢ 𝓤 (Run vs))) $
    move ! (2 ∷ []) $ fsplit ! $ keep ! (1 ∷ 2 ∷ 4 ∷ 5 ∷ []) $
    use1 𝓛 (‵ (hidden_shr (Words K k) κ (to (block.the_type K k) me) b o) ⊛ ‵
    (fhide (block_shares shared l₀ p me.alloc x κ)))
    (lent_out 𝓛 (block.struct K k) (block.the_codes K.Denot K.coded (heap.the_row).coded (marker.the_row K).coded)
    (block.the_heap K k) (block.the_lent K k) κ me b o) $
    split ! $ move ! (1 ∷ []) $ unhide ! $ fsplit ! $
    fpick ! (λ inb. drop ! $ fpick ! (λ i. fsplit3 ! $ move ! (2 ∷ []) $ fsplit ! $
    -- [invariant; shown; tokens; marks; fields; the handle; the token; nothing]
    move ! (4 ∷ []) $ unhide ! $ fsplit ! $ fsplit ! $ hide ! $
    use1 𝓛 (‵ (hidden_shr RawPtr κ p b (o + 0))) (id⊢ 𝓤 _) $ keep ! (0 ∷ 8 ∷ 3 ∷ 4 ∷ 5 ∷ 6 ∷ 7 ∷ 9 ∷ []) $
    -- [the pointer; the token; invariant; shown; tokens; marks; the handle; nothing]
    enter ! 𝓣.C 𝓣.Λ fn vs Post $ alloc_all !
    (λ l. pass_all ! refl (
      (tt, tt),
      (fits, ((tt, record { fits = are.1.1.0.1 }), ((tt, record { fits = are.1.1.1.0.1 }), tt))),
    ) $
    let Ev = env fn.locals l in
    looks ! tt RawPtr (plain_Copied 𝓛 Ptr coded_ptr (ty_ptr ∷ []) ptr_own rawptr_pure ptr_val RawPtr-laws.tells).opens
    {κ = κ} {q = q} p b (o + 0) (λ q' vs'. move ! (1 ∷ []) $ feq_l ! (λ e.
    rewrite ! 0 (λ (us : List Val). ‵ (cell_at q' RawPtr.mir us b (o + 0)))
    (e ∙ ap (λ (r : Ptr). ptr_val r ∷ []) (at_block p inb)) refl $
    sets ! (of_opd ! (load ! (through ! refl (fld ! refl (stop !))) (look ! 0 refl))) refl (tt, tt) $
    feq_i ! (List Val) (vptr pb po ∷ []) (ptr_val p ∷ []) (ap (λ (r : Ptr). ptr_val r ∷ []) (sym (at_block p inb))) $
    move ! (1 ∷ 0 ∷ []) $ shuts ! tt RawPtr q' p (vptr pb po ∷ []) b (o + 0) $
    -- [the token; the pointer; invariant; shown; tokens; marks; the handle; nothing]
    use1 𝓛 (‵ (flft κ (Share.left q)) ⊛ ‵ (flft κ (Share.right q))) (𝓛.lfts.lft_split κ q) $ split ! $
    move ! (5 ∷ 0 ∷ []) $ shr_bor-open ! tt (tokens_halve 𝓛 (i.0 ∷ [])) (λ s.
    -- [the open token; its share; the other half; the pointer; invariant; shown; marks; the handle; nothing]
    move ! (6 ∷ 2 ∷ []) $ shr_bor-open ! tt (mark_halves 𝓛 i.1 i.2 Reader) (λ r.
    -- [the open mark; its share; the open token; its share; the pointer; invariant; shown; the handle; nothing]
    move ! (5 ∷ []) $ let P : Fml = rule shared l₀ me.alloc x pb po i in
    let Kept : Fml = rule_kept shared pb (po + 0) P in
    use1 𝓛 (‵ Kept ⊛ ‵ Kept) (kept_twice 𝓛 shared pb (po + 0) P) $ split ! $ move ! (3 ∷ 5 ∷ []) $ fjoin ! $
    move ! (1 ∷ 0 ∷ []) $ fjoin ! $
    -- [what the step needs; invariant; the open mark; the open token; the pointer; shown; the handle; nothing]
    let w : Ptr = block_ptr pb (po + 0) in let g : Joining = ((l₀, me.alloc, x, po, i), s, r) in
    let y : step.Ghost = (
      (
        κs.1,
        z.0.1.1,
        tt,
        (w, (old, (new, tt))),
        (ptr_val w ∷ [], (vint w64 old ∷ [], (vint w64 new ∷ [], tt))),
      ),
      g,
    ) in
    use0 𝓛 (raw (fact 𝓤 (new ≡ old + 1))) (fact_i 𝓤 (new ≡ old + 1) (emp 𝓤) next) $ join ! $
    use0 𝓛 (raw (fact 𝓤 (old < limit l₀))) (fact_i 𝓤 (old < limit l₀) (emp 𝓤) below) $ join ! $
    use0 𝓛 (raw (fact 𝓤 (κs.1.0 ⊑ K.lives))) (fact_i 𝓤 (κs.1.0 ⊑ K.lives) (emp 𝓤) le) $ join ! $
    nothing ! $ flt_i ! new (2 ^ 64) are.1.1.1.0.1 $ feq_i ! (List Val) (vint w64 new ∷ []) (vint w64 new ∷ []) refl $
    fjoin ! $ fjoin ! $
    flt_i ! old (2 ^ 64) are.1.1.0.1 $ feq_i ! (List Val) (vint w64 old ∷ []) (vint w64 old ∷ []) refl $ fjoin ! $
    fjoin ! $ feq_i ! (List Val) (ptr_val w ∷ []) (ptr_val w ∷ []) refl $ fjoin ! $
    move ! (8 ∷ []) $ join ! $ join ! $ use1 𝓛 (raw (step.pre y)) (id⊢ 𝓤 (step.pre y)) $
    first ! $ blocks ! $ sets ! (addr ! (through ! refl (fld ! refl (stop !)))) refl (tt, tt) $
    calls_at_last ! (fm 𝓛 𝓜 𝓡) step met.add y
    (and_then ! (get ! refl) (and_then ! (get ! refl) (and_then ! (get ! refl) (no_more !)))) (λ u.
    use1 𝓛 (later (some (λ (n : ℕ). ((‵ (flft κs.1.0 z.0.1.1.0) ⊛ ‵ ftrue) ⊛ ‵ (u64.own_val n (u ∷ []))) ⊛ some
    (λ (ls : Lasts (callee.ended K k d) κs.1 y.0.3). ‵ (lasts (callee.ended K k d) κs.1 y.0.3 ls) ⊛ ‵
    (joined_to shared g old w n))))) (id⊢ 𝓤 (step.post y u)) $
    await ! tt $ pick ! (λ n. split ! $ split ! $ move ! (1 ∷ []) $ fsplit ! $
    feq_l ! (λ eu. flt_l ! (λ small. move ! (1 ∷ []) $
    pick ! (λ _. split ! $ drop ! $ move ! (0 ∷ 2 ∷ 3 ∷ 4 ∷ 5 ∷ 6 ∷ 7 ∷ 1 ∷ []) $ fsplit3 ! $
    lands_last ! refl (typed n u (sym (ap only eu), small)) $ exec ! 𝓣.C 𝓣.Λ Ev (after 2 fn.body) (at_ret Ev Post) $
    -- [the share of the mark; that of the token; what the step gives; invariant; the open mark; the open token; the
    -- pointer; shown; the handle; nothing]
    move ! (4 ∷ 0 ∷ []) $ obor_close ! tt $ drop ! $ move ! (4 ∷ 1 ∷ []) $ obor_close ! tt $ drop ! $
    use2 𝓛 (‵ (flft κ q)) (𝓛.lfts.lft_join κ q) $ move ! (0 ∷ 6 ∷ []) $ join ! $
    -- [the tokens; what the step gives; invariant; the pointer; shown; the handle]
    sets ! (is ! (of_opd ! (get ! refl)) (ap only eu)) refl (tt, record { fits = small }) $
    sets ! (bin ! (get ! refl) (get ! refl) tt) refl (tt, tt) $ first ! $ branches ! (get ! refl)
    (λ same. let hv : Val = handle_val (vptr pb po) h in let good_hv = handle_good pb po h fits in
    let v₀ : Val = live 0 (vcons hv vnil) in
    let good : Good (layout Out) v₀ = (and_tt _ good_hv.0, (record { fits = lit< tt }, (good_hv.1, tt))) in
    let made : R.Denot = record { node = block_ptr pb po; alloc = a; kind = record {}; limit = l₀; inner = x } in
    move ! (1 ∷ []) $ use1 𝓛 (‵ (fsep (fex ℕ (λ j. mark role_coded.code i.1 j Reader)) (part 63 i.0)))
    (joined 𝓛 (whose shared i.3) (limit l₀) (content me.alloc x pb po) pb (po + 0) i.0 i.1 old n
    (eqb→eq n old same)) $ fsplit ! $ fpick ! (λ j.
    -- [mark; part; the tokens; invariant; the pointer; shown; the handle]
    move ! (0 ∷ 5 ∷ []) $ fjoin ! $ move ! (1 ∷ 3 ∷ 0 ∷ []) $ fjoin3 ! $
    fpack ! Id (reader shared l₀ a x pb po) (i.0, i.1, j, i.3) $
    fpack ! Bool (sole_or_counted (fex Id (writer shared l₀ a x pb po)) (fex Id (reader shared l₀ a x pb po)))
    false $
    move ! (0 ∷ 3 ∷ []) $ handle_in (param 0 K) k ! met.crosses l₀ pb po h a x $
    sets ! (agg ! (no_more !)) refl (tt, tt) $
    sets ! (agg ! (and_then ! (get ! refl) (and_then ! (get ! refl) (and_then ! (get ! refl) (no_more !))))) refl
    good_hv $ sets_last ! (agg ! (and_then ! (lit ! tt) (and_then ! (get ! refl) (no_more !)))) refl good $
    exec ! 𝓣.C 𝓣.Λ Ev (after 5 fn.body) (at_ret Ev Post) $ sets ! (of_opd ! (get ! refl)) refl good $
    use1 𝓛 (‵ (Out.own_val (Ok made) (v₀ ∷ []))) (Ok-of 𝓛 R u64 made hv) $
    let Told : Type 0 = (l₀ ≡ l₀) × (x ≡ x) in use0 𝓛 (raw (fact 𝓤 Told)) (fact_i 𝓤 Told (emp 𝓤) (refl, refl)) $
    nothing ! $ nothing ! $ fjoin ! $ nothing ! $ fjoin ! $ nothing ! $ fjoin ! $ nothing ! $ fjoin ! $
    returns ! (look_at ! 0 refl) $ free_all ! refl $ keep ! (3 ∷ 0 ∷ 2 ∷ 1 ∷ []) $
    by ! (leaves 𝓛 En stays c z v₀ (Ok made) _ (tt, (tt, (tt, (tt, tt)))))))
    (λ other. let v₁ : Val = live 1 (vcons (vint w64 n) vnil) in
    sets_last ! (agg ! (and_then ! (lit ! tt) (and_then ! (get ! refl) (no_more !)))) refl
    (tt, (record { fits = lit< tt }, (record { fits = small }, tt))) $
    exec ! 𝓣.C 𝓣.Λ Ev (after 5 fn.body) (at_ret Ev Post) $
    sets ! (of_opd ! (get ! refl)) refl (tt, (record { fits = lit< tt }, (record { fits = small }, tt))) $
    flt_i ! n (2 ^ 64) small $ feq_i ! (List Val) (vint w64 n ∷ []) (vint w64 n ∷ []) refl $ fjoin ! $
    use1 𝓛 (‵ (Out.own_val (Err n) (v₁ ∷ []))) (Err-of 𝓛 R u64 n (vint w64 n)) $
    use0 𝓛 (raw (fact 𝓤 (Unit {0}))) (fact_i 𝓤 (Unit {0}) (emp 𝓤) tt) $ nothing ! $ nothing ! $ fjoin ! $ nothing ! $
    fjoin ! $ nothing ! $ fjoin ! $ nothing ! $ fjoin ! $
    returns ! (look_at ! 0 refl) $ free_all ! refl $ keep ! (3 ∷ 0 ∷ 2 ∷ 1 ∷ []) $
    by ! (leaves 𝓛 En stays c z v₁ (Err n) _ (tt, (tt, (tt, (tt, tt)))))))))))))))))))))))
