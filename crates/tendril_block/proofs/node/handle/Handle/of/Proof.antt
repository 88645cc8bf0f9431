-- `of` splits the node into its count and its content, and creates the count's invariant.
use Rattle.std.proofs.Common.{◌≡◌, ℕ, ◌+◌, Bool, false, List, [], ◌∷◌, ◌++◌, refl, sym, subst}
use mir.Syntax.{Dict, Fn, w64}
use mir.MapTy.{inst_fn}
use contract.BorrowLft.{◌⊑◌}
use denote.Param.{param}
use denote.Triple.Entry.{alive}
use Rattle.tendril_block.specs.declared.node.threading.Threading.{Ghosts}
use Rattle.tendril_block.proofs.Handles.{Self, args, handle_val, handle_good, handle_in}
use mir.Val.{Val, vint, vptr}
use base.Logic.{SProp, ent, emp, id⊢}
use base.Fml.{fex}
use prog.Wp.{WpFn}
use types.Kit.{‵, raw, ◌⊛◌, later, ◌$◌, ◌∵◌, !, qed, by, move, keep, drop, split, split3, fsplit, fjoin, fjoin3, fpack}
use types.Kit.{suffices, use0, use1, use2, await, rewrite}
use types.Run.{stop, fld, of_opd, no_more, and_then, returns, enter}
use types.ByLocal.{alloc_all, pass_all, free_all, look_at, get, get_in, sets}
use types.Part.{agg, sub, whole}
use contract.Monad.{fact, fact_i}
use contract.Running.{tables}
use denote.Exit.{yes}
use denote.RattleType.{RattleType, owns}
use denote.Signature.{types_at, plain}
use denote.Builtin.{u64}
use denote.Memory.{part_at}
use denote.RawPtr.{block_ptr}
use denote.Steps.{nothing, heard}
use denote.Triple.Walked.{Stays, stay_dropped, walk_of, Goes-dropped}
use base.Fraction.{full_share}
use Rattle.std.specs.contracts.alloc.Global as heap
use Rattle.std.proofs.alloc.Global.TheLaws as heap_laws
use Rattle.std.specs.contracts.impls.GlobalAllocator.TheImpl.{ghosts}
use Rattle.std.proofs.raw_atomic.Walks.{proved_at, leaves}
use Rattle.std_alloc.specs.Owners.{sole_or_counted}
use Rattle.atomic_table.specs.Seated.{word}
use Rattle.tendril_block.proofs.Values.{both, RawBox, loose_good, loose_out}
use Rattle.tendril_block.proofs.Carved.{carve, begin, apart}
use Rattle.tendril_block.specs.Owned.{BodyRow, body_at, reader, writer, Id}
use Rattle.tendril_block.specs.contracts.node.Node as node
use Rattle.tendril_block.specs.contracts.node.handle.Handle.of.{ended, clauses}
use Rattle.tendril_block.specs.contracts.node.handle.Handle.of.Key.{name as #self}
use Rattle.tendril_block.proofs.node.handle.Handle.of.Statement.{statement}
use Rattle.tendril_block.proofs.node.handle.Handle.of.Code as code

abbrev Z : RattleType
Z = heap.the_row

abbrev L : RattleType
L = RawBox node.the_row Z heap_laws.the_row_laws ghosts

abbrev stayed : (K : RattleType) (k : Ghosts K.Denot) (d : Dict)
    → Stays (ended K k d).signature.params (ended K k d).kept
stayed K k d = (stay_dropped (plain (λ _. L)) yes, (stay_dropped (plain (λ _. u64)) yes, tt))

pub of_spec : {M : Type 1} → statement M
of_spec 𝓤 𝓛 𝓜 𝓡 wired K law k d met =
    let H = 𝓛.H in let 𝓣 = tables 𝓤 H 𝓜 𝓡 𝓡.env in let En = ended K k d in let stays = stayed K k d in
    let c = clauses K k d 𝓛 𝓜.mem 𝓡.returns in let fn : Fn = inst_fn (args K d) code.function in
    proved_at 𝓛 En stays c 𝓜 𝓡 (
      Goes-dropped 𝓛 1 (plain (λ _. L)) yes (λ κs x f. refl),
      (Goes-dropped 𝓛 1 (plain (λ _. u64)) yes (λ κs x f. refl), tt),
    ) (#self (args K d)) fn
    (code.unfolded 𝓤 H 𝓜 𝓡 wired (K, tt) d) (λ z are.
    let κs = z.0.0 in let v = z.0.3.0 in let Post : Val → SProp 𝓤 = (walk_of 𝓛 En stays c).post z in
    let Run : List Val → SProp 𝓤 = λ ws. WpFn 𝓤 H 𝓣.C 𝓣.Λ fn ws Post in
    qed 𝓛 ((raw (alive 𝓛 En.signature κs z.0.1) ⊛ ‵ (owns (types_at En.signature.params κs) z.0.3 z.0.4)) ∷
    (raw (fact 𝓤 (κs.0 ⊑ K.lives)) ⊛ raw (fact 𝓤 (v.value.count ≡ 1))) ∷ []) ∵
    move ! (1 ∷ []) $ split ! $ drop ! $ heard ! (v.value.count ≡ 1) (λ one. split ! $ move ! (1 ∷ []) $ fsplit ! $
    loose_out node.the_row Z heap_laws.the_row_laws ghosts ! v z.0.4.0 (λ b o h e ws fits.
    let w : Val = both (vptr b o) h in let n = z.0.3.1.0 in let u : Val = vint w64 n in
    let w' : Val = handle_val (vptr b o) h in let y : Bool = k.any_thread in
    let typed = loose_good node.the_row Z heap_laws.the_row_laws ghosts b o h fits in let a = v.alloc in
    let x = v.value.body in
    fsplit ! $ use1 𝓛 (‵ (word b (o + 0) v.value.count) ⊛ ‵ (part_at BodyRow full_share x b (o + body_at)) ⊛ ‵
    (apart 𝓛 b o)) (carve 𝓛 v.value b o) $ split3 ! $
    rewrite ! 0 (λ (n : ℕ). ‵ (word b (o + 0) n)) one refl $ move ! (1 ∷ 3 ∷ 2 ∷ []) $ fjoin3 ! $ move ! (1 ∷ 0 ∷ []) $
    suffices ! (Run (w ∷ u ∷ [])) (subst (λ (us : List Val). ent 𝓤 (Run (w ∷ u ∷ [])) (Run us))
    (sym (λ i. ws i ++ (are.1.0.0 i ++ []))) (id⊢ 𝓤 (Run (w ∷ u ∷ [])))) $
    enter ! 𝓣.C 𝓣.Λ fn (w ∷ u ∷ []) Post $
    alloc_all ! (λ l. pass_all ! refl (typed, ((tt, record { fits = are.1.0.1 }), tt)) $
    use2 𝓛 (later (‵ (fex Id (reader y n a x b o)))) (begin 𝓛 y n a x b o) $ await ! tt $
    fpack ! Bool (sole_or_counted (fex Id (writer y n a x b o)) (fex Id (reader y n a x b o))) false $
    -- [the reference; the handle; the end of the parameters; the tokens]
    sets ! (of_opd ! (get_in ! (fld ! refl (stop !)) (sub ! 0 refl (whole !)))) refl (tt, tt) $
    sets ! (of_opd ! (get_in ! (fld ! refl (stop !)) (sub ! 1 refl (whole !)))) refl fits $
    sets ! (agg ! (no_more !)) refl (tt, tt) $
    sets ! (agg ! (and_then ! (get ! refl) (and_then ! (get ! refl) (and_then ! (get ! refl) (no_more !))))) refl
    (handle_good b o h fits) $
    move ! (0 ∷ 1 ∷ []) $ handle_in (param 0 K) k ! met.crosses n b o h a x $
    let r : (Self (param 0 K) k).Denot =
    record { node = block_ptr b o; alloc = a; kind = record {}; limit = n; inner = x } in
    let Told : Type 0 = (n ≡ n) × (x ≡ x) in
    use0 𝓛 (raw (fact 𝓤 Told)) (fact_i 𝓤 Told (emp 𝓤) (refl, refl)) $ nothing ! $ nothing ! $ fjoin ! $ nothing ! $
    fjoin ! $
    returns ! (look_at ! 0 refl) $ free_all ! refl $ keep ! (4 ∷ 0 ∷ 2 ∷ 1 ∷ []) $
    by ! (leaves 𝓛 En stays c z w' r _ (tt, (tt, tt)))))))
