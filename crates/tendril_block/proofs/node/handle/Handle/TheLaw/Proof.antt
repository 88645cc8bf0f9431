-- A `&` to a handle owns a share of its lifetime's token. Assumes `Logic`.
use Rattle.std.proofs.Common.{ℕ, ◌+◌, Bool, false, [], ◌∷◌}
use seplogic.Ra.Ura.{Ura}
use base.Logic.{ent}
use base.Fml.{Lft, Fml, ftrue, fsep, fex, flft}
use types.Logic.{Logic, sem}
use types.Kit.{‵, later, ◌$◌, ◌∵◌, !, qed, move, drop, fsplit, fpick, fjoin, fpack, use1, updating, await, now, done}
use denote.RawPtr.{Ptr, InBlock, block_ptr, null_ptr, block_of, count_of}
use denote.Steps.{nothing}
use denote.Sharing.{ShrLaws, said, some}
use denote.SharingLaws.{said_shr_laws, beside_shr_laws}
use denote.Struct.Field.{RawPtr-field}
use denote.RattleType.{RattleType}
use denote.Param.Laws.{Laws}
use denote.Struct.Laws.{RawPtr-copy, field_copy}
use denote.Param.Shared.{copy_shared}
use denote.Struct.Lending.{of_Lends, Lends, Lends-false, Lends-both, Lends-first, Lends-said}
use Rattle.std.specs.declared.alloc.Global.{Global}
use Rattle.std.specs.contracts.alloc.Global as heap
use Rattle.std.proofs.alloc.Global.TheLaws as heap_laws
use Rattle.atomic_table.specs.Seated.{fact}
use Rattle.std_alloc.specs.Owners.{sole_or_counted}
use Rattle.std_alloc.proofs.ArcSteps.{Settles, Lends-settled}
use Rattle.core.specs.contracts.marker.PhantomData as marker
use Rattle.tendril_block.specs.declared.node.threading.Threading.{Ghosts}
use Rattle.tendril_block.specs.contracts.node.handle.Handle as C
use Rattle.tendril_block.specs.Owned.{Crosses, rule_kept, rule, BodyIn, shown, Id, reader, writer, held_at, lends}
use Rattle.tendril_block.specs.Owned.{ptr_in_block, block_owns, block_shares}
use Rattle.tendril_block.proofs.Carved.{shown_laws, counted, kept_twice}
use Rattle.tendril_block.proofs.Lent.{Lends-holder, holder_shr_laws}
use Rattle.tendril_block.proofs.node.handle.Handle.TheLaw.Statement.{statement}

laws : (y : Bool) (l : ℕ) (p : Ptr) (h : Global) (x : BodyIn) → ShrLaws (block_shares y l p h x)
laws y l p h x = beside_shr_laws (said (ptr_in_block p)) (some Id (lends y l h x (block_of p) (count_of p)))
    (said_shr_laws (ptr_in_block p) (λ _. tt))
    (holder_shr_laws (λ i. rule_kept y (block_of p) (count_of p + 0) (rule y l h x (block_of p) (count_of p) i))
    (λ i W 𝓤 𝓛. kept_twice 𝓛 y (block_of p) (count_of p + 0) (rule y l h x (block_of p) (count_of p) i))
    (shown h x (block_of p) (count_of p)) (shown_laws h x (block_of p) (count_of p)))

module _ {M : Type 1} {𝓤 : Ura M} (𝓛 : Logic 𝓤) (P : Type 0) (y : Bool) (n : ℕ) (h : Global) (x : BodyIn) where
  open 𝓛 use {H, A}

  module _ (b o : ℕ) where
    abbrev p : Ptr
    p = block_ptr b o

    abbrev Owns : Fml
    Owns = fex P (λ _. held_at y n h x b o)

    abbrev Reads : Fml
    Reads = fsep (ptr_in_block p) (fex Id (reader y n h x b o))

    abbrev Q : Fml
    Q = fsep Reads (fact P)

    settles : (l : Lft) → Settles 𝓛 Owns Q l
    settles l μ q inc = qed 𝓛 (‵ Owns ∷ ‵ (flft μ q) ∷ []) ∵ updating ! $
        fpick ! (λ c. use1 𝓛 (later (‵ (fex Id (reader y n h x b o)))) (counted 𝓛 y n h x b o) $ await ! tt $
        nothing ! $ fpack ! (InBlock p) (λ _. ftrue) tt $ fjoin ! $ nothing ! $ fpack ! P (λ _. ftrue) c $
        move ! (1 ∷ 0 ∷ []) $ fjoin ! $ now ! $ done !)

    back : ent 𝓤 (sem 𝓛 Q) (sem 𝓛 Owns)
    back = qed 𝓛 (‵ Q ∷ []) ∵ fsplit ! $ move ! (1 ∷ []) $ fpick ! (λ c. drop ! $ fsplit ! $ drop ! $
        fpack ! Bool (sole_or_counted (fex Id (writer y n h x b o)) (fex Id (reader y n h x b o))) false $
        fpack ! P (λ _. held_at y n h x b o) c $ done !)

    at_block : (l : Lft) → Lends 𝓛 Owns (block_shares y n p h x) l
    at_block l = Lends-settled 𝓛 Owns Q l (settles l) (block_shares y n p h x) back
        (Lends-first 𝓛 Reads (fact P) (block_shares y n p h x) l
        (Lends-both 𝓛 (ptr_in_block p) (fex Id (reader y n h x b o)) (said (ptr_in_block p))
        (some Id (lends y n h x b o)) l (Lends-said 𝓛 (ptr_in_block p) (λ _. tt) l)
        (Lends-holder (λ i. rule_kept y b (o + 0) (rule y n h x b o i))
        (λ i W 𝓤' 𝓛'. kept_twice 𝓛' y b (o + 0) (rule y n h x b o i)) (shown h x b o) (shown_laws h x b o) 𝓛 l)))

  law : (p : Ptr) (l : Lft) → Lends 𝓛 (block_owns P y n p h x) (block_shares y n p h x) l
  law null_ptr l = Lends-false 𝓛 (block_shares y n null_ptr h x) l
  law (block_ptr b o) l = at_block b o l

pub shares : (K : RattleType) (g : Ghosts K.Denot) (L : Laws K) → statement K g L
shares K g L = of_Lends (C.struct K g) (C.the_codes K.Denot K.coded (heap.the_row).coded (marker.the_row K).coded)
    (C.the_heap K g) (C.the_lent K g) (λ d p. laws g.any_thread d.limit d.node d.alloc d.inner) (
      copy_shared RawPtr-field RawPtr-copy,
      (heap_laws.the_field_shared, (copy_shared (marker.the_field K) (field_copy (marker.the_type K) tt), tt)),
    )
    (λ M 𝓤 𝓛 d p. law 𝓛 (Crosses K g.any_thread) g.any_thread d.limit d.alloc d.inner d.node (C.the_row K g).lives)
