-- `free` is the machine's `Free`, by the thread that has the duty to free.
use Rattle.std.proofs.Common.{◌≡◌, List, [], ◌∷◌, ◌++◌, refl, sym, subst}
use mir.Val.{Val, vptr}
use base.Logic.{SProp, ent, emp, id⊢}
use base.Fml.{ftrue, fex}
use prog.Wp.{WpFn}
use types.Kit.{‵, raw, ◌⊛◌, ◌$◌, ◌∵◌, !, qed, by, move, keep, split, join, fsplit, fjoin, suffices, use0, use1}
use types.Run.{stop, fld, of_opd, no_more, and_then, returns, enter}
use types.ByLocal.{alloc_all, pass_all, free_all, look_at, get, get_in, sets}
use types.Part.{agg, sub, whole}
use contract.Monad.{fact, fact_i}
use contract.Running.{tables}
use denote.Exit.{yes}
use denote.RattleType.{RattleType, owns}
use denote.Signature.{types_at, plain}
use denote.RawPtr.{block_ptr}
use denote.Steps.{nothing}
use denote.Triple.Walked.{Stays, stay_dropped, walk_of, Goes-dropped}
use Rattle.std.proofs.alloc.Global.TheLaws as heap_laws
use Rattle.std.specs.contracts.impls.GlobalAllocator.TheImpl.{ghosts}
use Rattle.std.proofs.raw_atomic.Walks.{proved_at, leaves}
use Rattle.tendril_block.proofs.Values.{both, RawBox, loose_good, loose_in}
use Rattle.tendril_block.proofs.Handles.{Z, frees}
use Rattle.tendril_block.proofs.Lasts.{L, last_out}
use Rattle.tendril_block.specs.Owned.{Id, freed}
use Rattle.tendril_block.specs.declared.node.Node.{Node}
use Rattle.tendril_block.specs.contracts.node.Node as node
use Rattle.tendril_block.specs.contracts.node.unfreed_node.UnfreedNode.free.{ended, clauses}
use Rattle.tendril_block.specs.contracts.node.unfreed_node.UnfreedNode.free.Key.{name as #self}
use Rattle.tendril_block.proofs.node.unfreed_node.UnfreedNode.free.Statement.{statement}
use Rattle.tendril_block.proofs.node.unfreed_node.UnfreedNode.free.Code as code

abbrev Out : RattleType
Out = RawBox node.the_row Z heap_laws.the_row_laws ghosts

abbrev stayed : Stays ended.signature.params ended.kept
stayed = (stay_dropped (plain (λ _. L)) yes, tt)

pub free_spec : {M : Type 1} → statement M
free_spec 𝓤 𝓛 𝓜 𝓡 wired =
    let H = 𝓛.H in let 𝓣 = tables 𝓤 H 𝓜 𝓡 𝓡.env in let c = clauses 𝓛 𝓜.mem 𝓡.returns in let fn = code.function in
    proved_at 𝓛 ended stayed c 𝓜 𝓡 (Goes-dropped 𝓛 0 (plain (λ _. L)) yes (λ κs x f. refl), tt) #self fn
    (code.unfolded 𝓤 H 𝓜 𝓡 wired) (λ z are.
    let κs = z.0.0 in let v = z.0.3.0 in let a = v.alloc in let x = v.inner in
    let Post : Val → SProp 𝓤 = (walk_of 𝓛 ended stayed c).post z in
    let Run : List Val → SProp 𝓤 = λ ws. WpFn 𝓤 H 𝓣.C 𝓣.Λ fn ws Post in
    qed 𝓛 ((‵ ftrue ⊛ ‵ (owns (types_at ended.signature.params κs) z.0.3 z.0.4)) ∷ ‵ ftrue ∷ []) ∵
    split ! $ move ! (1 ∷ []) $ fsplit ! $ last_out ! v z.0.4.0 (λ b o h e ws fits.
    let w : Val = both (vptr b o) h in
    let good_w = loose_good node.the_row Z heap_laws.the_row_laws ghosts b o h fits in
    let d : Node = record { count = v.count; body = x } in
    suffices ! (Run (w ∷ [])) (subst (λ (us : List Val). ent 𝓤 (Run (w ∷ [])) (Run us)) (sym (λ j. ws j ++ []))
    (id⊢ 𝓤 (Run (w ∷ [])))) $
    enter ! 𝓣.C 𝓣.Λ fn (w ∷ []) Post $ alloc_all ! (λ l. pass_all ! refl (good_w, tt) $
    -- [the node and the machine; the handle; the end of the parameters; the tokens]
    fsplit ! $ move ! (1 ∷ []) $ use1 𝓛 (‵ (fex Id (freed v.limit))) (frees 𝓛 v.limit) $ move ! (1 ∷ 2 ∷ []) $
    sets ! (of_opd ! (get_in ! (fld ! refl (stop !)) (sub ! 0 refl (whole !)))) refl (tt, tt) $
    sets ! (of_opd ! (get_in ! (fld ! refl (stop !)) (sub ! 1 refl (whole !)))) refl fits $
    sets ! (agg ! (and_then ! (get ! refl) (and_then ! (get ! refl) (no_more !)))) refl good_w $
    loose_in node.the_row Z heap_laws.the_row_laws ghosts ! b o h a d $
    let r : Out.Denot = record { at = block_ptr b o; alloc = a; value = d } in
    let Told : Type 0 = (v.count ≡ v.count) × (x ≡ x) in
    use0 𝓛 (raw (fact 𝓤 Told)) (fact_i 𝓤 Told (emp 𝓤) (refl, refl)) $ move ! (0 ∷ 2 ∷ []) $ join ! $ nothing ! $
    nothing ! $ fjoin ! $
    returns ! (look_at ! 0 refl) $ free_all ! refl $ keep ! (4 ∷ 0 ∷ 2 ∷ 1 ∷ []) $
    by ! (leaves 𝓛 ended stayed c z w r _ (tt, tt)))))
