-- The low-level values of a `Handle` of either kind, and what its steps on the count give. Assumes `Logic`.
use Rattle.std.proofs.Common.{◌≡◌, ℕ, ◌+◌, ◌≢◌, Bool, true, false, List, [], ◌∷◌, ◌++◌, refl, sym, subst}
use seplogic.Ra.Ura.{Ura}
use mir.Syntax.{impl, tnil, dnil}
use mathlib.Core.Bool.{◌&&◌}
use lib.Dec.{T}
use mir.Val.{Val, vptr, vstruct, vcons, vnil, of_list, has_ty, WT}
use base.Fraction.{full_share}
use base.Logic.{ent, sep, upd, id⊢}
use base.Fml.{Fml, ftrue, fsep, fex}
use types.Logic.{Logic, sem}
use types.Kit.{Item, Goal, Seq, Step, step, ‵, raw, ◌⊛◌, given, later, ◌$◌, ◌∵◌, !, qed, by, move, drop, split, learn}
use types.Kit.{await, use1, use2, rewrite, fsplit, fsplit3, fjoin, fpick, fpack, feq_i, feq_l, updating, now, done}
use types.Owned.{basic}
use types.Tokens.{lent_back}
use types.RcWeak.{part}
use denote.Memory.{mem, cell_at, part_at, part_of}
use denote.RattleType.{RattleType, Valss}
use denote.Builtin.{RawPtr}
use denote.RawPtr.{Ptr, block_ptr, ptr_val, in_a_block}
use denote.Steps.{nothing}
use denote.Param.{layout}
use denote.Struct.Struct.{within}
use denote.Struct.Owning.{shape}
use denote.Struct.Declared as declared
use mir.Syntax.{Args, Dict, a_type, dcons}
use denote.Param.{bounded}
use Rattle.core.proofs.alloc.Calls.{Al, handle_tells}
use Rattle.core.proofs.cell.Inside.{Good}
use Rattle.std.specs.declared.alloc.Global.{Global}
use Rattle.std.specs.contracts.alloc.Global as heap
use Rattle.std.proofs.alloc.Global.TheLaws as heap_laws
use Rattle.std.specs.contracts.impls.GlobalAllocator.TheImpl.{ghosts}
use Rattle.atomic_table.specs.Seated.{word, fact, roster}
use Rattle.tendril_count.specs.Machine.{Ended, Block as Counted, held, holder_at, subtracted}
use Rattle.tendril_count.specs.Rule.{role_coded, Gone, Reader, Writer, role, roles, Threads, Any, IsReached, mark}
use Rattle.tendril_count.specs.Rule.{subtract_gives, join_gives, alone_gives}
use Rattle.tendril_count.proofs.Reached as reached
use Rattle.tendril_count.proofs.Reached.{IsGivenUp, IsFreed, given_up, is_freed, by_some}
use Rattle.tendril_count.proofs.Opening.{marked}
use Rattle.std_alloc.specs.Owners.{sole_or_counted}
use Rattle.tendril_block.proofs.Carved.{low}
use Rattle.std_alloc.proofs.ResultValues.{and_tt}
use Rattle.core.specs.contracts.marker.PhantomData as marker
use Rattle.tendril_block.specs.declared.node.threading.Threading.{Ghosts}
use Rattle.tendril_block.specs.contracts.node.handle.Handle as block
use Rattle.tendril_block.specs.Written.{with_body}
use Rattle.tendril_block.specs.Owned.{Crosses, limit, whose, BodyRow, BodyIn, body_at, content, Id, all_but_body, owed}
use Rattle.tendril_block.specs.Owned.{freed, stands, reader, writer, held_at, block_owns, Stepper as Stepped}
use Rattle.tendril_block.specs.Owned.{leaves_with, sees}

abbrev pub Z : RattleType
Z = heap.the_row

abbrev pub al : Al
al = record { row = Z; laws = heap_laws.the_row_laws; g = ghosts; d = impl [] tnil dnil; drops = impl [] tnil dnil }

abbrev pub mark_val : Val
mark_val = vstruct vnil

-- a pointer, an allocator and the kind, which has no bytes
abbrev pub handle_val : Val → Val → Val
handle_val v w = vstruct (vcons v (vcons w (vcons mark_val vnil)))

pub handle_good : (b o : ℕ) (h : Val) → Good (layout Z) h → T (has_ty (layout Z) h && true)
    × WT (handle_val (vptr b o) h)
handle_good b o h fits = (and_tt (has_ty (layout Z) h) fits.0, (tt, (fits.1, (tt, tt))))

-- the type arguments of a function that is generic in its kind, at this kind
abbrev pub args : RattleType → Dict → Args
args K d = bounded (a_type ∷ []) (K, tt) (dcons d dnil)

module _ (K : RattleType) (k : Ghosts K.Denot) where
  abbrev pub Self : RattleType
  Self = block.the_row K k

  module _ {M : Type 1} {𝓤 : Ura M} {𝓛 : Logic 𝓤} {W : Type 0} {Γ : List (Item 𝓤)} {G : Goal 𝓤 𝓛.H} where
    pub handle_out : W → (d : Self.Denot) (vs : List Val)
        → ((b o : ℕ) (h : Val) → d.node ≡ block_ptr b o → vs ≡ handle_val (vptr b o) h ∷ [] → Good (layout Z) h
        → Seq W 𝓛 (‵ (held_at k.any_thread d.limit d.alloc d.inner b o) ∷ ‵ (Z.own_val d.alloc (h ∷ [])) ∷ Γ) G)
        → Seq W 𝓛 (‵ (Self.own_val d vs) ∷ Γ) G
    handle_out t d vs next =
        fsplit t $ fpick t (λ vss. fsplit t $
        feq_l t (λ ev. fsplit t $ feq_l t (λ ep. fsplit t $
        handle_tells al t d.alloc vss.1.0 (λ h ea fits. move t (1 ∷ []) $ fsplit t $
        fpick t (λ us. fsplit t $ feq_l t (λ em. drop t $ drop t $ move t (1 ∷ []) $
        in_a_block t d.node (λ p. block_owns (Crosses K k.any_thread) k.any_thread d.limit p d.alloc d.inner)
        (id⊢ 𝓤 _) (λ b o e. fpick t (λ _. next b o h e
        (subst (λ (p : Ptr). vs ≡ vstruct (of_list (ptr_val p ∷ h ∷ mark_val ∷ [])) ∷ []) e
        (subst (λ (ms : List Val). vs ≡ vstruct (of_list (ptr_val d.node ∷ h ∷ (ms ++ []))) ∷ []) em
        (subst (λ (ws : List Val). vs ≡ vstruct (of_list (ptr_val d.node ∷ (ws ++ (vss.1.1.0 ++ [])))) ∷ []) ea
        (subst (λ (ps : List Val). vs ≡ vstruct (of_list (ps ++ (vss.1.0 ++ (vss.1.1.0 ++ [])))) ∷ []) ep ev))))
        fits))))))))

    pub handle_in : W → Crosses K k.any_thread → (l b o : ℕ) (h : Val) (a : Global) (x : BodyIn)
        → Step W 𝓛 (‵ (Self.own_val (record {
          node = block_ptr b o;
          alloc = a;
          kind = record {};
          limit = l;
          inner =
              x;
        }) (handle_val (vptr b o) h ∷ [])) ∷ Γ) G
        (‵ (held_at k.any_thread l a x b o) ∷ ‵ (Z.own_val a (h ∷ [])) ∷ Γ) G
    handle_in t c l b o h a x = step (λ s. let v : Val = handle_val (vptr b o) h in
        fpack t (Crosses K k.any_thread) (λ _. held_at k.any_thread l a x b o) c $ nothing t $ nothing t $
        feq_i t (List Val) (mark_val ∷ []) (mark_val ∷ []) refl $ fjoin t $
        fpack t (Valss []) (within (declared.shape (marker.the_type K)) tt (mark_val ∷ [])) tt $ fjoin t $
        move t (2 ∷ 0 ∷ []) $ fjoin t $ feq_i t (List Val) (vptr b o ∷ []) (vptr b o ∷ []) refl $ fjoin t $
        feq_i t (List Val) (v ∷ []) (v ∷ []) refl $ fjoin t $
        fpack t (Valss (RawPtr ∷ (heap.the_field).row ∷ (marker.the_field K).row ∷ []))
        (within (shape (block.the_type K k))
        (block_ptr b o, ((heap.the_field).into a, ((marker.the_field K).into (record {}), tt))) (v ∷ []))
        (vptr b o ∷ [], (h ∷ [], (mark_val ∷ [], tt))) $ fjoin t $ s)

module _ {M : Type 1} {𝓤 : Ura M} (𝓛 : Logic 𝓤) where
  open 𝓛 use {H}

  -- a state that the steps of one thread lead to is also one that the steps of any threads lead to
  by_any_thread : (of : Threads) (l γ n : ℕ) (Is : Counted → Type 0)
      → ent 𝓤 (sem 𝓛 (fex Counted (λ s. fsep (roster role_coded.code γ 0 (roles s.holders))
      (fact (IsReached of (limit l) s × (s.word ≡ n) × Is s)))))
      (sem 𝓛 (fex Counted (λ s. fsep (roster role_coded.code γ 0 (roles s.holders))
      (fact (IsReached Any (limit l) s × (s.word ≡ n) × Is s)))))
  by_any_thread of l γ n Is = let Stands : Counted → Fml = λ s. fsep (roster role_coded.code γ 0 (roles s.holders))
      (fact (IsReached Any (limit l) s × (s.word ≡ n) × Is s)) in
      qed 𝓛 (‵ (fex Counted (λ s. fsep (roster role_coded.code γ 0 (roles s.holders))
      (fact (IsReached of (limit l) s × (s.word ≡ n) × Is s)))) ∷ []) ∵
      fpick ! (λ s. fsplit ! $ move ! (1 ∷ []) $ fpick ! (λ so. drop ! $
      nothing ! $ fpack ! (IsReached Any (limit l) s × (s.word ≡ n) × Is s) (λ _. ftrue)
      (by_some of (limit l) s so.0, so.1, so.2) $ move ! (1 ∷ 0 ∷ []) $ fjoin ! $ fpack ! Counted Stands s $
      done !))

  -- a subtraction that finds 1 gives the count, the content and the duty to free
  pub taken : (y : Bool) (g : Stepped) (b w n : ℕ) → n ≡ 1
      → ent 𝓤 (sem 𝓛 (leaves_with y g b w n))
      (H.⇛ (sep 𝓤 (sem 𝓛 (word b w 0)) (sep 𝓤 (sem 𝓛 (content g.1 g.2 b g.3)) (sem 𝓛 (owed g.0 g.4)))))
  taken y g b w n one = qed 𝓛 (‵ (leaves_with y g b w n) ∷ []) ∵ fpick ! (λ z. by ! (at z))
    where
      gives : Bool → Fml
      gives = subtract_gives role_coded.code (whose y g.4.3) (limit g.0) (content g.1 g.2 b g.3) b w g.4.0 g.4.1 g.4.3 n

      at : (z : Bool) → ent 𝓤 (sem 𝓛
          (subtract_gives role_coded.code (whose y g.4.3) (limit g.0) (content g.1 g.2 b g.3) b w g.4.0 g.4.1 g.4.3 n
          z)) (H.⇛ (sep 𝓤 (sem 𝓛 (word b w 0)) (sep 𝓤 (sem 𝓛 (content g.1 g.2 b g.3)) (sem 𝓛 (owed g.0 g.4)))))
      at true = qed 𝓛 (‵ (subtract_gives role_coded.code (whose y g.4.3) (limit g.0) (content g.1 g.2 b g.3) b w g.4.0
          g.4.1 g.4.3 n true) ∷ []) ∵ updating ! $ fsplit ! $ drop ! $ fsplit ! $ move ! (1 ∷ []) $ fsplit3 ! $
          -- [the end; what was shared; the machine; the word]
          lent_back ! tt $ move ! (1 ∷ []) $
          use1 𝓛 (‵ (owed g.0 g.4)) (by_any_thread (whose y g.4.3) g.0 g.4.1 0
          (λ s. (held s ≡ 0) × (s.frees ≡ 0) × (s.duties ≡ g.4.3 ∷ []))) $ now ! $ move ! (2 ∷ 1 ∷ 0 ∷ []) $ done !
      at false = qed 𝓛 (‵ (fact (n ≢ 1)) ∷ []) ∵ fpick ! (λ no. absurd (no one))

  -- a load of 1 gives the node
  pub granted : (y : Bool) (g : Stepped) (b n : ℕ) → n ≡ 1
      → ent 𝓤 (sem 𝓛 (sees y g b (g.3 + 0) n))
      (H.⇛ (sep 𝓤 (sem 𝓛 (part_at BodyRow full_share g.2 b (g.3 + body_at)))
      (sem 𝓛 (all_but_body y g.0 g.1 g.2 b g.3 g.4))))
  granted y g b n one = qed 𝓛 (‵ (sees y g b (g.3 + 0) n) ∷ []) ∵ fpick ! (λ z. by ! (at z))
    where
      at : (z : Bool) → ent 𝓤 (sem 𝓛
          (alone_gives role_coded.code (whose y g.4.3) (limit g.0) (content g.1 g.2 b g.3) b
          (g.3 + 0) g.4.0 g.4.1 g.4.2 g.4.3 n z))
          (H.⇛ (sep 𝓤 (sem 𝓛 (part_at BodyRow full_share g.2 b (g.3 + body_at)))
          (sem 𝓛 (all_but_body y g.0 g.1 g.2 b g.3 g.4))))
      at true = qed 𝓛 (‵ (alone_gives role_coded.code (whose y g.4.3) (limit g.0) (content g.1 g.2 b g.3) b
          (g.3 + 0) g.4.0 g.4.1 g.4.2 g.4.3 n true) ∷ []) ∵ updating ! $ fsplit ! $ drop ! $ fsplit ! $
          move ! (1 ∷ []) $ fsplit ! $ move ! (1 ∷ []) $ fsplit3 ! $
          -- [the end; what was shared; the machine; the word; the mark]
          lent_back ! tt $ now ! $ fsplit ! $ move ! (2 ∷ 1 ∷ []) $ fjoin ! $ move ! (2 ∷ 0 ∷ []) $ fjoin ! $
          move ! (2 ∷ 0 ∷ []) $ fjoin ! $ move ! (1 ∷ 0 ∷ []) $ done !
      at false = qed 𝓛 (‵ (alone_gives role_coded.code (whose y g.4.3) (limit g.0) (content g.1 g.2 b g.3) b
          (g.3 + 0) g.4.0 g.4.1 g.4.2 g.4.3 n false) ∷ []) ∵ fsplit ! $ fpick ! (λ no. absurd (no one))

  -- after a load of another number, the reference is still a reader
  pub refused : (y : Bool) (g : Stepped) (b w n : ℕ) → n ≢ 1
      → ent 𝓤 (sem 𝓛 (sees y g b w n)) (sep 𝓤 (sem 𝓛 (mark role_coded.code g.4.1 g.4.2 Reader)) (sem 𝓛 (part 63 g.4.0)))
  refused y g b w n more = qed 𝓛 (‵ (sees y g b w n) ∷ []) ∵ fpick ! (λ z. by ! (at z))
    where
      at : (z : Bool) → ent 𝓤 (sem 𝓛
          (alone_gives role_coded.code (whose y g.4.3) (limit g.0) (content g.1 g.2 b g.3) b w g.4.0 g.4.1 g.4.2 g.4.3
          n z)) (sep 𝓤 (sem 𝓛 (mark role_coded.code g.4.1 g.4.2 Reader)) (sem 𝓛 (part 63 g.4.0)))
      at true = qed 𝓛 (‵ (alone_gives role_coded.code (whose y g.4.3) (limit g.0) (content g.1 g.2 b g.3) b w g.4.0
          g.4.1 g.4.2 g.4.3 n true) ∷ []) ∵ fsplit ! $ fpick ! (λ one. absurd (more one))
      at false = qed 𝓛 (‵ (alone_gives role_coded.code (whose y g.4.3) (limit g.0) (content g.1 g.2 b g.3) b w g.4.0
          g.4.1 g.4.2 g.4.3 n false) ∷ []) ∵ fsplit ! $ drop ! $ fsplit ! $ done !

  -- a writer that gives up its reference has the duty to free; it owns the count, whose number no longer matters
  pub gives_up : (y : Bool) (l b w : ℕ) (P : Fml) (i : Id)
      → ent 𝓤 (sep 𝓤 (sem 𝓛 (mark role_coded.code i.1 i.2 Writer)) (sem 𝓛 (fex Counted (stands y l i))))
      (H.⇛ (sem 𝓛 (owed l i)))
  gives_up y l b w P i = qed 𝓛 (‵ (mark role_coded.code i.1 i.2 Writer) ∷ ‵ (fex Counted (stands y l i)) ∷ []) ∵
      updating ! $ move ! (1 ∷ []) $ fpick ! (λ s. fsplit ! $ move ! (1 ∷ []) $ fpick ! (λ so. drop ! $
      let s' : Counted = subtracted s i.2 Ended i.3 in
      let Ended_at = raw (upd 𝓤 (sep 𝓤 (sem 𝓛 (roster role_coded.code i.1 0 (roles s'.holders)))
      (sem 𝓛 (mark role_coded.code i.1 i.2 Gone)))) in
      use2 𝓛 (given (role (holder_at s.holders i.2) ≡ Writer) Ended_at)
      (marked 𝓛 (whose y i.3) (limit l) P b w 0 i.1 (low l) s i.2 Writer Ended) $ learn ! (λ _.
      use1 𝓛 (later (‵ (roster role_coded.code i.1 0 (roles s'.holders)) ⊛ ‵ (mark role_coded.code i.1 i.2 Gone)))
      (basic 𝓛 (sep 𝓤 (sem 𝓛 (roster role_coded.code i.1 0 (roles s'.holders)))
      (sem 𝓛 (mark role_coded.code i.1 i.2 Gone)))) $ await ! tt $ split ! $
      move ! (1 ∷ []) $ drop ! $ nothing ! $
      fpack ! (IsGivenUp (limit l) s' i.3) (λ _. ftrue)
      (given_up (whose y i.3) (limit l) (low l) s i.2 i.3 so.0 so.2 so.1) $ move ! (1 ∷ 0 ∷ []) $ fjoin ! $
      fpack ! Counted (λ t. fsep (roster role_coded.code i.1 0 (roles t.holders)) (fact (IsGivenUp (limit l) t i.3)))
      s' $ now ! $ done !)))

  -- a thread that has the duty can take the machine's `Free`
  pub frees : (l : ℕ) → ent 𝓤 (sem 𝓛 (fex Id (owed l))) (sem 𝓛 (fex Id (freed l)))
  frees l = qed 𝓛 (‵ (fex Id (owed l)) ∷ []) ∵
      fpick ! (λ i. fpick ! (λ s. fsplit ! $ move ! (1 ∷ []) $ fpick ! (λ so. drop ! $
      nothing ! $ fpack ! (IsFreed (limit l) (reached.freed s)) (λ _. ftrue) (is_freed (limit l) s i.3 so) $
      move ! (1 ∷ 0 ∷ []) $ fjoin ! $
      fpack ! Counted (λ t. fsep (roster role_coded.code i.1 0 (roles t.holders)) (fact (IsFreed (limit l) t)))
      (reached.freed s) $ fpack ! Id (freed l) i $ done !)))

  -- with any body in its place, the parts of the node are the handle again
  pub back : (K : RattleType) (k : Ghosts K.Denot) (d : (Self K k).Denot) (b o nb na : ℕ) (h : Val) (i : Id)
      → d.node ≡ block_ptr nb na → Crosses K k.any_thread → (w : BodyIn)
      → ent 𝓤 (sep 𝓤 (sem 𝓛 ((mem BodyRow).own_at w nb (na + body_at)))
      (sem 𝓛 (fsep (all_but_body k.any_thread d.limit d.alloc d.inner nb na i)
      (fsep (Z.own_val d.alloc (h ∷ []))
      (cell_at full_share (Self K k).mir (handle_val (vptr nb na) h ∷ []) b o)))))
      (sem 𝓛 ((mem (Self K k)).own_at (with_body d w) b o))
  unfolding part_of
  back K k d b o nb na h i e c w = let v : Val = handle_val (vptr nb na) h in let y : Bool = k.any_thread in
      let R : RattleType = Self K k in
      qed 𝓛 (‵ (part_at BodyRow full_share w nb (na + body_at)) ∷ ‵
      (fsep (all_but_body y d.limit d.alloc d.inner nb na i)
      (fsep (Z.own_val d.alloc (h ∷ [])) (cell_at full_share R.mir (v ∷ []) b o))) ∷ []) ∵
      move ! (1 ∷ []) $ fsplit3 ! $ fsplit3 ! $ move ! (2 ∷ []) $ fsplit ! $
      -- [the machine; the right to free; the mark; the word; the handle; the cell; the body]
      move ! (6 ∷ 1 ∷ []) $ fjoin ! $ move ! (1 ∷ 0 ∷ []) $ fjoin ! $ move ! (2 ∷ 0 ∷ []) $ fjoin ! $
      move ! (1 ∷ 0 ∷ []) $ fjoin ! $
      fpack ! Id (writer y d.limit d.alloc w nb na) i $
      fpack ! Bool (sole_or_counted (fex Id (writer y d.limit d.alloc w nb na))
      (fex Id (reader y d.limit d.alloc w nb na))) true $
      handle_in K k ! c d.limit nb na h d.alloc w $
      rewrite ! 0 (λ (p : Ptr). ‵ (R.own_val
      (record { node = p; alloc = d.alloc; kind = record {}; limit = d.limit; inner = w }) (v ∷ []))) (sym e) refl $
      move ! (1 ∷ 0 ∷ []) $ fjoin ! $
      fpack ! (List Val) (λ us. fsep (cell_at full_share R.mir us b o) (R.own_val (with_body d w) us)) (v ∷ []) $
      done !

  -- an add that found the expected count gives a new reference
  pub joined : (of : Threads) (l : ℕ) (P : Fml) (b w a γ old n : ℕ) → n ≡ old
      → ent 𝓤 (sem 𝓛 (fex Bool (join_gives role_coded.code of l P b w a γ old n)))
      (sem 𝓛 (fsep (fex ℕ (λ j. mark role_coded.code γ j Reader)) (part 63 a)))
  joined of l P b w a γ old n same = qed 𝓛 (‵ (fex Bool (join_gives role_coded.code of l P b w a γ old n)) ∷ []) ∵
      fpick ! (λ z. by ! (at z))
    where
      at : (z : Bool) → ent 𝓤 (sem 𝓛 (join_gives role_coded.code of l P b w a γ old n z))
          (sem 𝓛 (fsep (fex ℕ (λ j. mark role_coded.code γ j Reader)) (part 63 a)))
      at true = qed 𝓛 (‵ (join_gives role_coded.code of l P b w a γ old n true) ∷ []) ∵ fsplit ! $ drop ! $ done !
      at false = qed 𝓛 (‵ (join_gives role_coded.code of l P b w a γ old n false) ∷ []) ∵
          fpick ! (λ no. absurd (no same))
