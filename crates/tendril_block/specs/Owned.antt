-- What a reference to a block owns: a node on the heap, which has the count of its references (`word`) and the body.
-- The node is at b, o. The invariant owns the count. All references borrow the remainder, the content, for one
-- lifetime.
use Rattle.std.specs.Prelude.{◌≡◌, ℕ, ◌+◌, min, max, Bool, true, false, List, [], ◌∷◌}
use mir.Syntax.{w64, ty_int, ty_struct}
use mir.Raw.{raw as bare}
use prog.Memory.{align, up}
use base.Stored.{Coded}
use base.Fraction.{full_share}
use base.Fml.{Lft, Share, Fml, ftrue, ffalse, fsep, fex, finv, flft, fleft}
use types.Na.{na_inv}
use types.RcWeak.{part}
use denote.RattleType.{RattleType}
use denote.Memory.{lone, part_at}
use denote.Builtin.{u64}
use denote.RawPtr.{Ptr, InBlock, block_ptr, null_ptr, block_of, count_of}
use denote.Sharing.{said, beside, some, one, held}
use base.Shift.{Keyless}
use mir.Val.{Val}
use denote.Struct.Lending.{lent_at}
use denote.Struct.Members.{Member, raw_tys}
use Rattle.std.specs.declared.alloc.Global.{Global}
use Rattle.std.specs.contracts.impls.GlobalAllocator.TheImpl.{ghosts}
use Rattle.tendril_block.specs.contracts.body.Body as body
use Rattle.std_alloc.specs.Owners.{sole_or_counted}
use Rattle.std_alloc.specs.Box.Ownership.{box_owns}
use Rattle.atomic_table.specs.Seated.{word, fact, seen, roster}
use Rattle.tendril_count.specs.Machine.{Writes, Block, held as holders_left, holder_at}
use Rattle.tendril_count.specs.Rule.{
  role_coded,
  Reader,
  Writer,
  roles,
  Threads,
  Any,
  Only,
  mark,
  Inv,
  IsReached,
  join_gives,
  alone_gives,
  subtract_gives,
}
use Rattle.tendril_block.specs.contracts.node.Node.{the_row as NodeRow}

-- the limit of references that the number l means
abbrev pub limit : ℕ → ℕ
limit l = min (max l 1) 4294967295

abbrev pub BodyRow : RattleType
BodyRow = body.the_row

abbrev pub BodyIn : Type 0
BodyIn = BodyRow.Denot

abbrev pub body_coded : Coded BodyIn
body_coded = BodyRow.coded

abbrev pub members : List Member
members = record { row = u64; ty = ty_int w64 } ∷ record { row = BodyRow; ty = lone BodyRow.mir } ∷ []

-- the offset of the body in the node
abbrev pub body_at : ℕ
body_at = up (align (lone BodyRow.mir)) 8

-- the lifetime, the ghost name, the number of the reference, and the thread that takes its steps
abbrev pub Id : Type 0
Id = ℕ × ℕ × ℕ × ℕ

-- the threads whose steps the invariant allows: all, or one
abbrev pub whose : Bool → ℕ → Threads
whose true t = Any
whose false t = Only t

-- the machine's state s, in which this reference writes
abbrev pub stands : Bool → ℕ → Id → Block → Fml
stands y l i s =
    fsep (roster role_coded.code i.1 0 (roles s.holders))
    (fact (IsReached (whose y i.3) (limit l) s × (s.word ≡ 1) × (holder_at s.holders i.2 ≡ Writes i.3)))

-- P as the invariant of the count at b, w: for all threads, or for one
abbrev pub rule_kept : Bool → ℕ → ℕ → Fml → Fml
rule_kept true b w P = finv P
rule_kept false b w P = na_inv (b, w) P

module _ (h : Global) (x : BodyIn) (b o : ℕ) where
  -- all of the node but its count, and the right to free the node
  abbrev pub content : Fml
  content = fsep (part_at BodyRow full_share x b (o + body_at))
      (fsep (ghosts.dealloc_token h (bare (lone NodeRow.mir)) (block_ptr b o))
      (fleft full_share (ty_struct [] (raw_tys members)) (raw_tys members) b o))

  -- what a `&` to the body owns
  abbrev pub shown : Lft → Fml
  shown = lent_at BodyRow (block_ptr b (o + body_at)) x

module _ (y : Bool) (l : ℕ) (h : Global) (x : BodyIn) (b o : ℕ) where
  abbrev pub rule : Id → Fml
  rule i = Inv role_coded.code (whose y i.3) (limit l) (content h x b o) b (o + 0) i.0 i.1

  -- a reference that reads
  abbrev pub reader : Id → Fml
  reader i = fsep (part 63 i.0)
      (fsep (rule_kept y b (o + 0) (rule i)) (fsep (mark role_coded.code i.1 i.2 Reader) (shown h x b o (i.0 ∷ []))))

  -- a reference that was found to be the only one: it owns the count, the content and the machine's state
  abbrev pub writer : Id → Fml
  writer i = fsep (mark role_coded.code i.1 i.2 Writer)
      (fsep (word b (o + 0) 1) (fsep (fex Block (stands y l i)) (content h x b o)))

  -- all of that but the body
  abbrev pub all_but_body : Id → Fml
  all_but_body i =
      fsep (mark role_coded.code i.1 i.2 Writer)
      (fsep (word b (o + 0) 1)
      (fsep (fex Block (stands y l i))
      (fsep (ghosts.dealloc_token h (bare (lone NodeRow.mir)) (block_ptr b o))
      (fleft full_share (ty_struct [] (raw_tys members)) (raw_tys members) b o))))

  abbrev pub held_at : Fml
  held_at = fex Bool (sole_or_counted (fex Id writer) (fex Id reader))

  -- what a `&` to a reference owns: shares of its lifetime's token and of its mark, the invariant and a `&` to the body
  abbrev pub lends : Id → Lft → Fml
  lends i = beside (one (λ q. flft (i.0 ∷ []) q))
      (beside (one (λ q. seen role_coded.code i.1 i.2 q Reader))
      (beside (λ _. rule_kept y b (o + 0) (rule i)) (held (i.0 ∷ []) (shown h x b o))))

abbrev pub ptr_in_block : Ptr → Fml
ptr_in_block p = fex (InBlock p) (λ _. ftrue)

abbrev pub block_shares : Bool → ℕ → Ptr → Global → BodyIn → Lft → Fml
block_shares y l p h x = beside (said (ptr_in_block p)) (some Id (lends y l h x (block_of p) (count_of p)))

-- if any thread may own the kind's values, its references may be in any threads
abbrev pub Crosses : RattleType → Bool → Type 0
Crosses R y = ((d : R.Denot) (vs : List Val) → Keyless (R.own_val d vs)) → y ≡ true

abbrev pub block_owns : Type 0 → Bool → ℕ → Ptr → Global → BodyIn → Fml
block_owns P y l (block_ptr b o) h x = fex P (λ _. held_at y l h x b o)
block_owns P y l null_ptr h x = ffalse

-- the machine's state for a block without references, which this thread has the duty to free
abbrev pub owed : ℕ → Id → Fml
owed l i = fex Block
    (λ s. fsep (roster role_coded.code i.1 0 (roles s.holders))
    (fact (IsReached Any (limit l) s × (s.word ≡ 0) × ((holders_left s ≡ 0) × (s.frees ≡ 0) × (s.duties ≡ i.3 ∷ [])))))

-- the machine's state for a block that was freed
abbrev pub freed : ℕ → Id → Fml
freed l i = fex Block
    (λ s. fsep (roster role_coded.code i.1 0 (roles s.holders))
    (fact (IsReached Any (limit l) s × (s.frees ≡ 1) × (s.duties ≡ []))))

-- the node at b, o of a block without references, whatever its count n still is: nothing reads it any more
module _ (l : ℕ) (h : Global) (n : ℕ) (x : BodyIn) (b o : ℕ) where
  abbrev pub last_at : Fml
  last_at = fsep (box_owns (ghosts.dealloc_token h) NodeRow (block_ptr b o) (record { count = n; body = x }))
      (fex Id (owed l))

abbrev pub last_owns : ℕ → Ptr → Global → ℕ → BodyIn → Fml
last_owns l (block_ptr b o) h n x = last_at l h n x b o
last_owns l null_ptr h n x = ffalse

-- a step on a node's count: the limit, the allocator, the body, the node's offset in its allocation, and the reference
abbrev pub Stepper : Type 0
Stepper = ℕ × Global × BodyIn × ℕ × Id

module _ (y : Bool) (g : Stepper) (b w : ℕ) where
  abbrev pub node_rule : Fml
  node_rule = Inv role_coded.code (whose y g.4.3) (limit g.0) (content g.1 g.2 b g.3) b w g.4.0 g.4.1

  abbrev pub steps : Fml
  steps = fsep (rule_kept y b w node_rule) (fsep (mark role_coded.code g.4.1 g.4.2 Reader) (part 63 g.4.0))

  abbrev pub leaves_with : ℕ → Fml
  leaves_with n =
      fex Bool (subtract_gives role_coded.code (whose y g.4.3) (limit g.0)
      (content g.1 g.2 b g.3) b w g.4.0 g.4.1 g.4.3 n)

  abbrev pub sees : ℕ → Fml
  sees n = fex Bool
      (alone_gives role_coded.code (whose y g.4.3) (limit g.0) (content g.1 g.2 b g.3) b w g.4.0 g.4.1 g.4.2 g.4.3 n)

abbrev pub seen_by : Bool → Stepper → Ptr → ℕ → Fml
seen_by y g (block_ptr b w) n = sees y g b w n
seen_by y g null_ptr n = ffalse

abbrev pub holds : Bool → Stepper → Ptr → Fml
holds y g (block_ptr b w) = steps y g b w
holds y g null_ptr = ffalse

abbrev pub left : Bool → Stepper → Ptr → ℕ → Fml
left y g (block_ptr b w) n = leaves_with y g b w n
left y g null_ptr n = ffalse

-- a step through a `&`, with shares of the lifetime's token and of the mark
abbrev pub Joining : Type 0
Joining = Stepper × Share × Share

module _ (y : Bool) (g : Joining) (b w : ℕ) where
  abbrev pub part_of_mark : Fml
  part_of_mark = seen role_coded.code g.0.4.1 g.0.4.2 g.2 Reader

  abbrev pub by_parts : Fml
  by_parts = fsep (rule_kept y b w (node_rule y g.0 b w)) (fsep part_of_mark (flft (g.0.4.0 ∷ []) g.1))

  abbrev pub joins_with : ℕ → ℕ → Fml
  joins_with old n =
      fsep part_of_mark
      (fsep (flft (g.0.4.0 ∷ []) g.1)
      (fex Bool (join_gives role_coded.code (whose y g.0.4.3) (limit g.0.0)
      (content g.0.1 g.0.2 b g.0.3) b w g.0.4.0 g.0.4.1 old n)))

abbrev pub joins : Bool → Joining → Ptr → Fml
joins y g (block_ptr b w) = by_parts y g b w
joins y g null_ptr = ffalse

abbrev pub joined_to : Bool → Joining → ℕ → Ptr → ℕ → Fml
joined_to y g old (block_ptr b w) n = joins_with y g b w old n
joined_to y g old null_ptr n = ffalse

-- a load that is no step of the machine
module _ (y : Bool) (g : Stepper × Share) (b w : ℕ) where
  abbrev pub by_token : Fml
  by_token = fsep (rule_kept y b w (node_rule y g.0 b w)) (flft (g.0.4.0 ∷ []) g.1)

abbrev pub peeks : Bool → Stepper × Share → Ptr → Fml
peeks y g (block_ptr b w) = by_token y g b w
peeks y g null_ptr = ffalse

abbrev pub token_of : Stepper × Share → Fml
token_of g = flft (g.0.4.0 ∷ []) g.1
