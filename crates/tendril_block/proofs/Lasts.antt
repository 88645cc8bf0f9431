-- How the low-level values of a `UnfreedNode` and the node that it owns follow from each other. Assumes `Logic`.
use Rattle.std.proofs.Common.{◌≡◌, ℕ, List, [], ◌∷◌, ◌++◌, refl, subst}
use mir.Val.{Val, vptr, vstruct, of_list}
use base.Logic.{id⊢}
use types.Kit.{Item, Goal, Seq, Step, step, ‵, ◌$◌, move, drop, fsplit, fjoin, fpick, fpack, feq_i, feq_l}
use seplogic.Ra.Ura.{Ura}
use types.Logic.{Logic}
use denote.RattleType.{RattleType, Valss}
use denote.Builtin.{RawPtr}
use denote.RawPtr.{Ptr, block_ptr, ptr_val, in_a_block}
use denote.Steps.{nothing}
use denote.Param.{layout}
use denote.Struct.Struct.{within}
use denote.Struct.Owning.{shape}
use Rattle.core.proofs.alloc.Calls.{handle_tells}
use Rattle.core.proofs.cell.Inside.{Good}
use Rattle.std.specs.declared.alloc.Global.{Global}
use Rattle.std.specs.contracts.alloc.Global as heap
use Rattle.tendril_block.proofs.Values.{both}
use Rattle.tendril_block.proofs.Handles.{Z, al}
use Rattle.tendril_block.specs.contracts.node.unfreed_node.UnfreedNode as last
use Rattle.tendril_block.specs.Owned.{BodyIn, last_at, last_owns}

abbrev pub L : RattleType
L = last.the_row

module _ {M : Type 1} {𝓤 : Ura M} {𝓛 : Logic 𝓤} {K : Type 0} {Γ : List (Item 𝓤)} {G : Goal 𝓤 𝓛.H} where
  pub last_out : K → (d : L.Denot) (vs : List Val)
      → ((b o : ℕ) (h : Val) → d.node ≡ block_ptr b o → vs ≡ both (vptr b o) h ∷ [] → Good (layout Z) h
      → Seq K 𝓛 (‵ (last_at d.limit d.alloc d.count d.inner b o) ∷ ‵ (Z.own_val d.alloc (h ∷ [])) ∷ Γ) G)
      → Seq K 𝓛 (‵ (L.own_val d vs) ∷ Γ) G
  last_out t d vs k =
      fsplit t $ fpick t (λ vss. fsplit t $
      feq_l t (λ ev. fsplit t $ feq_l t (λ ep. fsplit t $
      handle_tells al t d.alloc vss.1.0 (λ h ea fits. move t (1 ∷ []) $ drop t $ move t (1 ∷ []) $
      in_a_block t d.node (λ p. last_owns d.limit p d.alloc d.count d.inner) (id⊢ 𝓤 _) (λ b o e. k b o h e
      (subst (λ (p : Ptr). vs ≡ vstruct (of_list (ptr_val p ∷ h ∷ [])) ∷ []) e
      (subst (λ (ws : List Val). vs ≡ vstruct (of_list (ptr_val d.node ∷ (ws ++ []))) ∷ []) ea
      (subst (λ (ps : List Val). vs ≡ vstruct (of_list (ps ++ (vss.1.0 ++ []))) ∷ []) ep ev))) fits)))))

  pub last_in : K → (l n b o : ℕ) (h : Val) (a : Global) (x : BodyIn)
      → Step K 𝓛 (‵ (L.own_val (record { node = block_ptr b o; alloc = a; limit = l; count = n; inner = x })
      (both (vptr b o) h ∷ [])) ∷ Γ) G (‵ (last_at l a n x b o) ∷ ‵ (Z.own_val a (h ∷ [])) ∷ Γ) G
  last_in t l n b o h a x = step (λ s. let v : Val = both (vptr b o) h in
      nothing t $ move t (2 ∷ 0 ∷ []) $ fjoin t $ feq_i t (List Val) (vptr b o ∷ []) (vptr b o ∷ []) refl $ fjoin t $
      feq_i t (List Val) (v ∷ []) (v ∷ []) refl $ fjoin t $
      fpack t (Valss (RawPtr ∷ (heap.the_field).row ∷ []))
      (within (shape last.the_type) (block_ptr b o, ((heap.the_field).into a, tt)) (v ∷ []))
      (vptr b o ∷ [], (h ∷ [], tt)) $ fjoin t $ s)
