-- A node is split into its count and its content, and its owner becomes one of the references. Assumes `Logic`.
use Rattle.std.proofs.Common.{ℕ, ◌+◌, Bool, true, false, [], ◌∷◌, arith, refl, w64}
use mathlib.Core.List.{not-mem-nil}
use seplogic.Ra.Ura.{Ura}
use mir.Syntax.{ty_struct}
use mir.Raw.{raw as bare}
use base.Fraction.{full_share}
use base.Logic.{SProp, ent, sep}
use base.Fml.{Lft, Incl, Incl-refl, Fml, fsep, fex, flft, fleft}
use types.Logic.{Logic, sem}
use types.Kit.{‵, ◌⊛◌, later, ◌$◌, ◌∵◌, !, qed, by, move, keep, split, fsplit, fsplit3, fjoin, fjoin3, fpick, fpack}
use types.Kit.{use1, use2, updating, await, now, done}
use types.Na.{na_inv_new, na_inv_dup}
use types.RcWeak.{part, part_in}
use denote.Builtin.{u64}
use denote.Memory.{part_at, lone}
use denote.Plain.{uint_out, uint_in, uint_Lawful}
use denote.RawPtr.{block_ptr, lies_at}
use denote.Steps.{nothing}
use denote.Shares.{Shares-less}
use denote.Param.Laws.{Laws}
use denote.Struct.Lending.{Lends, Lends-first, Lends-lies, lent_at_shr_laws}
use denote.Sharing.{ShrLaws}
use denote.Struct.Members.{parts_at, rows_of, raw_tys, lawful_Lones, Lones}
use denote.Struct.Parts.{Struct-left, left_Struct}
use Rattle.std.specs.declared.alloc.Global.{Global}
use Rattle.std.specs.contracts.impls.GlobalAllocator.TheImpl.{ghosts}
use Rattle.tendril_block.proofs.body.Body.TheLaws as body_laws
use Rattle.std_alloc.specs.Owners.{sole_or_counted}
use Rattle.atomic_table.specs.Seated.{word}
use Rattle.tendril_count.specs.Machine.{IsLimit}
use Rattle.tendril_count.proofs.Made.{made, resumed, first_holder}
use Rattle.tendril_block.specs.declared.node.Node.{Node}
use Rattle.tendril_block.specs.contracts.node.Node as node
use Rattle.tendril_count.specs.Rule.{IsTurn}
use Rattle.tendril_block.specs.Owned.{limit, whose, rule_kept, BodyRow, BodyIn, members, body_at, content, shown, Id}
use Rattle.tendril_block.specs.Owned.{reader, writer, held_at}

-- a thread may take the steps that its own invariant allows
pub own_turn : (y : Bool) (t : ℕ) → IsTurn (whose y t) t
own_turn true t = tt
own_turn false t = refl

pub low : (l : ℕ) → IsLimit (limit l)
low l = (omega arith, omega arith)

abbrev pub vec_law : Laws BodyRow
vec_law = body_laws.the_row_laws

pub shown_laws : (h : Global) (x : BodyIn) (b o : ℕ) → ShrLaws (shown h x b o)
shown_laws h x b o = lent_at_shr_laws BodyRow vec_law.shr_laws (block_ptr b (o + body_at)) x

module _ {M : Type 1} {𝓤 : Ura M} (𝓛 : Logic 𝓤) where
  open 𝓛 use {H, A}

  abbrev ⟦◌⟧ : Fml → SProp 𝓤
  ⟦ P ⟧ = sem 𝓛 P

  abbrev lones : Lones (rows_of members)
  lones = lawful_Lones 𝓛 members (uint_Lawful 𝓛 w64, (vec_law.lawful 𝓛, tt))

  abbrev pub apart : ℕ → ℕ → Fml
  apart b o = fleft full_share (ty_struct [] (raw_tys members)) (raw_tys members) b o

  pub carve : (d : Node) (b o : ℕ)
      → ent 𝓤 ⟦ part_at node.the_row full_share d b o ⟧
      (sep 𝓤 ⟦ word b (o + 0) d.count ⟧ (sep 𝓤 ⟦ part_at BodyRow full_share d.body b (o + body_at) ⟧ ⟦ apart b o ⟧))
  unfolding denote.Memory.part_of
  carve d b o = qed 𝓛 (‵ (part_at node.the_row full_share d b o) ∷ []) ∵
      use1 𝓛 (‵ (parts_at full_share members 0 (d.count, (d.body, tt)) b o) ⊛ ‵ (apart b o))
      (Struct-left 𝓛 full_share (node.the_type).name members lones (d.count, (d.body, tt)) b o) $ split ! $
      fsplit3 ! $
      use1 𝓛 (‵ (word b (o + 0) d.count)) (uint_out 𝓛 full_share w64 d.count b (o + 0)) $ keep ! (0 ∷ 1 ∷ 3 ∷ []) $
      done !

  pub rejoin : (d : Node) (b o : ℕ)
      → ent 𝓤 (sep 𝓤 ⟦ word b (o + 0) d.count ⟧
      (sep 𝓤 ⟦ part_at BodyRow full_share d.body b (o + body_at) ⟧ ⟦ apart b o ⟧)) ⟦ part_at node.the_row full_share d
      b o ⟧
  unfolding denote.Memory.part_of
  rejoin d b o = qed 𝓛 (‵ (word b (o + 0) d.count) ∷ ‵ (part_at BodyRow full_share d.body b (o + body_at)) ∷ ‵
      (apart b o) ∷ []) ∵
      use1 𝓛 (‵ (lies_at u64 full_share (block_ptr b (o + 0)) d.count)) (uint_in 𝓛 full_share w64 d.count b (o + 0)) $
      nothing ! $ move ! (1 ∷ 2 ∷ 0 ∷ []) $ fjoin3 ! $ move ! (0 ∷ 1 ∷ []) $
      use2 𝓛 {i = ‵ (parts_at full_share members 0 (d.count, (d.body, tt)) b o)} {j = ‵ (apart b o)}
      (‵ (part_at node.the_row full_share d b o))
      (left_Struct 𝓛 full_share (node.the_type).name members (d.count, (d.body, tt)) b o) $ done !

  keeps : (y : Bool) (b w : ℕ) (Q : Fml) → ent 𝓤 ⟦ Q ⟧ (H.⇛ ⟦ rule_kept y b w Q ⟧)
  keeps true b w = 𝓛.invs.inv_new
  keeps false b w = na_inv_new 𝓛 (b, w)

  pub kept_twice : (y : Bool) (b w : ℕ) (Q : Fml)
      → ent 𝓤 ⟦ rule_kept y b w Q ⟧ (sep 𝓤 ⟦ rule_kept y b w Q ⟧ ⟦ rule_kept y b w Q ⟧)
  kept_twice true b w = 𝓛.invs.inv_dup
  kept_twice false b w = na_inv_dup 𝓛 (b, w)

  static : (κ : Lft) → Incl κ []
  static κ i m = absurd (not-mem-nil m)

  module _ (h : Global) (x : BodyIn) (b o : ℕ) where
    shares_content : Lends 𝓛 (content h x b o) (shown h x b o) []
    shares_content = Lends-first 𝓛 (part_at BodyRow full_share x b (o + body_at))
        (fsep (ghosts.dealloc_token h (bare (lone node.the_row.mir)) (block_ptr b o)) (apart b o)) (shown h x b o) []
        (Lends-lies 𝓛 BodyRow [] (block_ptr b (o + body_at)) x
        (Shares-less 𝓛 BodyRow BodyRow.lives [] (static []) (vec_law.shares 𝓛) x))

  module _ (y : Bool) (l : ℕ) (h : Global) (x : BodyIn) (b o : ℕ) where
    abbrev R : Fml → Fml
    R = rule_kept y b (o + 0)

    abbrev new : (Q : Fml) → ent 𝓤 ⟦ Q ⟧ (H.⇛ ⟦ R Q ⟧)
    new = keeps y b (o + 0)

    -- the first reference of an invariant shares the content
    lent : (k t : ℕ) → ent 𝓤 ⟦ fex (ℕ × ℕ) (first_holder 𝓛 R new (whose y t) (limit l) (content h x b o) b (o + 0) k)
        ⟧ (H.⇛ ⟦ fex Id (reader y l h x b o) ⟧)
    lent k t = qed 𝓛 (‵ (fex (ℕ × ℕ) (first_holder 𝓛 R new (whose y t) (limit l) (content h x b o) b (o + 0) k)) ∷ [])
        ∵ updating ! $ fpick ! (λ i. fsplit ! $ fsplit3 ! $
        -- [invariant; mark; part; borrow]
        move ! (2 ∷ []) $ fpick ! (λ s. fpick ! (λ one. let a : Lft = i.0 ∷ [] in
        move ! (3 ∷ 0 ∷ []) $ use2 𝓛 (later (‵ (shown h x b o a) ⊛ ‵ (flft a s)))
        (shares_content h x b o a ((a, s) ∷ []) (static a) (Incl-refl a)) $ await ! tt $ split ! $
        move ! (1 ∷ []) $ use1 𝓛 (‵ (part 63 i.0)) (part_in 63 𝓛 i.0 s one) $
        -- [part; shown; invariant; mark]
        move ! (3 ∷ 1 ∷ []) $ fjoin ! $ move ! (1 ∷ 2 ∷ 0 ∷ []) $ fjoin3 ! $
        fpack ! Id (reader y l h x b o) (i.0, i.1, k, t) $ now ! $ done !)))

    pub begin : ent 𝓤 (sep 𝓤 ⟦ word b (o + 0) 1 ⟧ ⟦ content h x b o ⟧) (H.⇛ ⟦ fex Id (reader y l h x b o) ⟧)
    begin = qed 𝓛 (‵ (word b (o + 0) 1) ∷ ‵ (content h x b o) ∷ []) ∵ updating ! $
        use2 𝓛 (later (‵ (fex (ℕ × ℕ) (first_holder 𝓛 R new (whose y 0) (limit l) (content h x b o) b (o + 0) 0))))
        (made 𝓛 R new (whose y 0) (limit l) (content h x b o) b (o + 0) 0 (own_turn y 0)) $ await ! tt $
        use1 𝓛 (later (‵ (fex Id (reader y l h x b o)))) (lent 0 0) $ await ! tt $ now ! $ done !

    again : ent 𝓤 ⟦ fex Id (writer y l h x b o) ⟧ (H.⇛ ⟦ fex Id (reader y l h x b o) ⟧)
    again = qed 𝓛 (‵ (fex Id (writer y l h x b o)) ∷ []) ∵ updating ! $ fpick ! (λ i.
        use1 𝓛 (later (‵ (fex (ℕ × ℕ) (first_holder 𝓛 R new (whose y i.3) (limit l) (content h x b o) b
        (o + 0) i.2)))) (resumed 𝓛 R new (whose y i.3) (limit l) (content h x b o) b (o + 0) (low l) i.1 i.2 i.3)
        $ await ! tt $
        use1 𝓛 (later (‵ (fex Id (reader y l h x b o)))) (lent i.2 i.3) $ await ! tt $ now ! $ done !)

    -- a reference that was found to be the only one becomes one of the readers again
    pub counted : ent 𝓤 ⟦ held_at y l h x b o ⟧ (H.⇛ ⟦ fex Id (reader y l h x b o) ⟧)
    counted = qed 𝓛 (‵ (held_at y l h x b o) ∷ []) ∵ fpick ! (λ z. by ! (at z))
      where
        at : (z : Bool) → ent 𝓤 ⟦ sole_or_counted (fex Id (writer y l h x b o)) (fex Id (reader y l h x b o)) z ⟧
            (H.⇛ ⟦ fex Id (reader y l h x b o) ⟧)
        at true = again
        at false = 𝓛.laws.⇛_intro _
